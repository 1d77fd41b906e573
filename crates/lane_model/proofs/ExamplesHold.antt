-- The definitions give the worked examples: they compute.
use Rattle.std.proofs.Common.{refl}
use Rattle.std.specs.Int.Count.{ones_in}
use Rattle.lk_base.specs.Checksum.{bits_of, register_after}
use Rattle.lane_model.specs.Bits.{low_bits, low_number}
use Rattle.lane_model.specs.Framing.{role_of}
use Rattle.lane_model.specs.Key.{key_until, state_before, key_word, key_place}
use Rattle.lane_model.specs.LaneWords.{metaframe_crc, framed_at, sent_at, lane_words}
use Rattle.lane_model.specs.Coding.{code_of, disparity, is_inverted, codes_behind}
use Rattle.lane_model.specs.LaneBits.{bits_of_codes}
use Rattle.lane_model.specs.Examples.{FirstBytes, TwoEqualWords, FramingWords, DamagedBits}

pub first_bytes : FirstBytes
unfolding bits_of register_after low_bits low_number role_of key_until state_before key_word key_place metaframe_crc framed_at sent_at lane_words code_of disparity is_inverted codes_behind bits_of_codes ones_in
first_bytes = record { words = refl; coded = refl; after_one = refl; after_two = refl; after_three = refl; bytes = refl }

pub two_equal : TwoEqualWords
unfolding low_bits low_number code_of disparity is_inverted codes_behind ones_in
two_equal = record { coded = refl; after_one = refl; after_two = refl }

pub framing : FramingWords
unfolding bits_of register_after low_bits low_number role_of key_until state_before key_word key_place metaframe_crc framed_at sent_at
framing = record { key = refl; last_payload = refl; diagnostic = refl; second_state = refl }

pub damaged : DamagedBits
damaged = record { received = refl; untouched = refl }

-- Worked examples of frames, of the samples that are written, and of what samples give.
use Rattle.std.specs.Prelude.{◌≡◌, ℕ, true, false, List, [], ◌∷◌, ◌++◌, replicate, take, drop}
use Rattle.stream_model.specs.declared.rows.LocalRow.{LocalRow}
use Rattle.stream_model.specs.Examples.{flow_row}
use Rattle.oob_flow.specs.Frames.{block_sizes, block_checksum, frame_bits, frame_samples, frame_length}
use Rattle.oob_flow.specs.Written.{AreWritten}
use Rattle.oob_flow.specs.Taken.{taken}
use Rattle.oob_flow.specs.Reading.{rows_of_samples}

abbrev pub turned_off : ℕ → ℕ → LocalRow
turned_off slot channel = record { slot = slot; channel = channel; on = false }

-- ---- frames

pub record FrameExamples : Type 0 where
  pub one_entry : block_sizes 1 ≡ 1 ∷ []
  pub a_whole_block : block_sizes 64 ≡ 64 ∷ []
  pub one_more : block_sizes 65 ≡ 64 ∷ 1 ∷ []
  pub two_blocks : block_sizes 128 ≡ 64 ∷ 64 ∷ []
  pub most_entries : block_sizes 1024 ≡ replicate 16 64
  pub of_no_bits : block_checksum [] ≡ 0
  pub of_on : block_checksum (true ∷ []) ≡ 1
  pub of_off : block_checksum (false ∷ []) ≡ 2
  pub of_on_and_off : block_checksum (true ∷ false ∷ []) ≡ 0
  pub of_five : block_checksum (true ∷ false ∷ true ∷ true ∷ false ∷ []) ≡ 4
  pub of_64_on : block_checksum (replicate 64 true) ≡ 15
  pub of_64_off : block_checksum (replicate 64 false) ≡ 13
  pub bits : frame_bits (true ∷ false ∷ []) ≡ true ∷ false ∷ false ∷ false ∷ false ∷ false ∷ []
  pub short : frame_length 2 ≡ 12
  pub longer : frame_length 65 ≡ 146
  pub longest : frame_length 1024 ≡ 2176

-- ---- what is written

-- a calendar of channels 1 and 2, of which channel 2 is off
abbrev pub first_on_second_off : List ℕ
first_on_second_off = 0x06 ∷ 0x07 ∷ 0x00 ∷ 0x01 ∷ 0x00 ∷ 0x01 ∷ 0x00 ∷ 0x01 ∷ 0x00 ∷ 0x01 ∷ 0x00 ∷ 0x01 ∷ []

-- a calendar of channel 1, which is turned off while the first frame is sent: the second shows it
abbrev pub on_and_then_off : List ℕ
on_and_then_off = 0x06 ∷ 0x07 ∷ 0x00 ∷ 0x01 ∷ 0x00 ∷ 0x01 ∷ 0x00 ∷ 0x01 ∷ 0x02 ∷ 0x03 ∷ 0x04 ∷ 0x05 ∷ 0x00 ∷ 0x01 ∷ 0x00 ∷ 0x01 ∷ 0x02 ∷ 0x03 ∷ 0x00 ∷ 0x01 ∷ []

pub record WrittenExamples : Type 0 where
  pub at_once : AreWritten (1 ∷ 2 ∷ []) (turned_off 0 2 ∷ []) first_on_second_off
  pub later : AreWritten (1 ∷ []) (turned_off 5 1 ∷ []) on_and_then_off
  pub without_rows : AreWritten (1 ∷ []) [] (0x06 ∷ 0x07 ∷ 0x00 ∷ 0x01 ∷ 0x00 ∷ 0x01 ∷ 0x00 ∷ 0x01 ∷ 0x02 ∷ 0x03 ∷ [])

-- ---- what samples give

pub record ReadExamples : Type 0 where
  pub second_off : rows_of_samples 2 first_on_second_off ≡ flow_row 11 0x81BFFF00004B8D9D ∷ []
  -- the last checksum bit is inverted
  pub wrong : rows_of_samples 2 (0x06 ∷ 0x07 ∷ 0x00 ∷ 0x01 ∷ 0x00 ∷ 0x01 ∷ 0x00 ∷ 0x01 ∷ 0x00 ∷ 0x01 ∷ 0x00 ∷ 0x03 ∷ []) ≡ flow_row 11 0 ∷ []
  pub two_frames : rows_of_samples 1 on_and_then_off ≡ flow_row 9 0x81FFFF0000188177 ∷ flow_row 19 0x817FFF0000BE98A3 ∷ []
  -- without its first bit a frame is none
  pub from_within : rows_of_samples 1 (0x00 ∷ 0x01 ∷ on_and_then_off) ≡ flow_row 11 0x81FFFF0000188177 ∷ flow_row 21 0x817FFF0000BE98A3 ∷ []
  pub nothing : rows_of_samples 1 [] ≡ []
  -- 64 entries that are on, and one that is off
  pub two_blocks : rows_of_samples 65 (frame_samples (replicate 64 true ++ false ∷ [])) ≡ flow_row 135 0x81FFFF0000188177 ∷ flow_row 135 0x80FFFF00006639BC ∷ flow_row 135 0x80FFFF00006639BC ∷ flow_row 135 0x80FFFF00006639BC ∷ flow_row 145 0x807FFF0000C02068 ∷ []
  -- 16 entries that are on, and one that is off
  pub seventeen : rows_of_samples 17 (frame_samples (replicate 16 true ++ false ∷ [])) ≡ flow_row 41 0x81FFFF0000188177 ∷ flow_row 41 0x807FFF0000C02068 ∷ []
  -- the first of two blocks is wrong: the last of its checksum bits, which is 1, is sent as 0
  pub first_block_wrong : rows_of_samples 65 (take 134 (frame_samples (replicate 64 true ++ false ∷ [])) ++ 0x00 ∷ 0x01 ∷ drop 136 (frame_samples (replicate 64 true ++ false ∷ []))) ≡ flow_row 135 0 ∷ []
  -- a sync bit within a frame begins another
  pub sync_within : rows_of_samples 1 (0x06 ∷ 0x07 ∷ 0x00 ∷ 0x01 ∷ 0x00 ∷ 0x01 ∷ 0x04 ∷ 0x05 ∷ 0x00 ∷ 0x01 ∷ 0x00 ∷ 0x01 ∷ 0x02 ∷ 0x03 ∷ 0x00 ∷ 0x01 ∷ []) ≡ flow_row 15 0x817FFF0000BE98A3 ∷ []
  -- a bit is taken where the clock goes from 0 to 1: of the samples 7, 7, 1, 0, 1, 2, 3 at the first, the fifth and the last
  pub clock : taken (7 ∷ 7 ∷ 1 ∷ 0 ∷ 1 ∷ 2 ∷ 3 ∷ []) ≡ record { number = 0; state = true; sync = true } ∷ record { number = 4; state = false; sync = false } ∷ record { number = 6; state = true; sync = false } ∷ []

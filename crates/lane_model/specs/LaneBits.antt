-- The bits of a lane, and the bytes of its file.
use Rattle.std.specs.Prelude.{ℕ, ◌≡◌, ◌<◌, ◌^◌, ◌/◌, Bool, false, List, ◌++◌, length, replicate, flat_map, All}
use Rattle.lk_base.specs.declared.word.Word.{Word}
use Rattle.lk_base.specs.Checksum.{bits_of, bits_of_bytes}
use Rattle.lk_base.specs.Link.{Settings, group_of}
use Rattle.lane_model.specs.Key.{start_of, first_state}
use Rattle.lane_model.specs.LaneWords.{lane_words}
use Rattle.lane_model.specs.Coding.{codes_of}
use Rattle.lane_model.specs.Striping.{lane_payload}

-- codes one after the other, bit 66 of each first
unfoldable pub bits_of_codes : List ℕ → List Bool
bits_of_codes codes = flat_map (bits_of 67) codes

-- the bits of lane number `lane` with these payload words in this many metaframes
unfoldable pub lane_bits : Settings → ℕ → List Word → ℕ → List Bool
lane_bits s lane sent metaframes = bits_of_codes (codes_of (lane_words s (start_of (first_state lane)) sent metaframes))

-- the bits of lane number `lane` where the lanes carry this stream of whole groups
abbrev pub stream_lane_bits : Settings → List Word → ℕ → List Bool
stream_lane_bits s stream lane = lane_bits s lane (lane_payload s.lanes stream lane) (length stream / group_of s)

-- the bytes of a file with these bits, the first in the highest bit of the first byte; the last byte is padded with zeros
pub record IsFileOf (bytes : List ℕ) (bits : List Bool) : Type 0 where
  pub padding : ℕ
  pub short : padding < 8
  pub holds : bits_of_bytes bytes ≡ bits ++ replicate padding false
  pub each : All (λ b. b < 2 ^ 8) bytes

-- Worked examples of lanes.
use Rattle.std.specs.Prelude.{ℕ, ◌≡◌, ◌^◌, ◌-◌, ◌+◌, true, false, List, [], ◌∷◌, pos, negsuc, take, replicate}
use Rattle.lk_base.specs.declared.word.Word.{Word}
use Rattle.lk_base.specs.declared.word.Word.TheVariants.{Data, Control}
use Rattle.lk_base.specs.Checksum.{bits_of_bytes}
use Rattle.lk_base.specs.Link.{Settings}
use Rattle.lane_model.specs.Key.{start_of, first_state, key_word}
use Rattle.lane_model.specs.LaneWords.{lane_words, sent_at}
use Rattle.lane_model.specs.Coding.{code_of, codes_of, disparity}
use Rattle.lane_model.specs.LaneBits.{bits_of_codes}
use Rattle.lane_model.specs.Damage.{received_bits, IsUndamaged}

-- metaframes of 32 words with one Skip word
abbrev pub short_link : Settings
short_link = record { lanes = 1; metaframe = 32; skips = 1; burst_max = 256; burst_short = 64; deskew = 7; warmup = 4; max_packet = 262144 }

-- the first three words of lane 0, which are framing words
abbrev pub three : List Word
three = take 3 (lane_words short_link (start_of (first_state 0)) [] 1)

pub record FirstBytes : Type 0 where
  pub words : three ≡ Control 0x78F678F678F678F6 ∷ Control 0x2BFFFFFFFFFFFFFF ∷ Control 0x1E1E1E1E1FE1E1DE ∷ []
  pub coded : codes_of three ≡ code_of true (Control 0x78F678F678F678F6) ∷ code_of false (Control 0x2BFFFFFFFFFFFFFF) ∷ code_of true (Control 0x1E1E1E1E1FE1E1DE) ∷ []
  pub after_one : disparity (codes_of (take 1 three)) ≡ negsuc 14
  pub after_two : disparity (codes_of (take 2 three)) ≡ pos 40
  pub after_three : disparity (codes_of three) ≡ pos 35
  pub bytes : take 200 (bits_of_codes (codes_of three)) ≡ bits_of_bytes (0xD0 ∷ 0xE1 ∷ 0x30 ∷ 0xE1 ∷ 0x30 ∷ 0xE1 ∷ 0x30 ∷ 0xE1 ∷ 0x28 ∷ 0xAF ∷ 0xFF ∷ 0xFF ∷ 0xFF ∷ 0xFF ∷ 0xFF ∷ 0xFF ∷ 0xFF ∷ 0x70 ∷ 0xF0 ∷ 0xF0 ∷ 0xF0 ∷ 0xF0 ∷ 0x0F ∷ 0x0F ∷ 0x10 ∷ [])

pub record TwoEqualWords : Type 0 where
  pub coded : codes_of (Data 0 ∷ Data 0 ∷ []) ≡ 2 ^ 64 ∷ (2 ^ 66 + (2 ^ 65 - 1)) ∷ []
  pub after_one : disparity (codes_of (Data 0 ∷ [])) ≡ negsuc 64
  pub after_two : disparity (codes_of (Data 0 ∷ Data 0 ∷ [])) ≡ pos 0

-- the words of lane 0 whose payload words are all this one
abbrev pub idle_word : ℕ → Word
idle_word position = sent_at short_link (start_of (first_state 0)) (replicate 56 (Control 0x81FFFF0000000000)) position

pub record FramingWords : Type 0 where
  pub key : key_word (start_of (first_state 0)) 0 ≡ 0x0000000001FFFFC0
  pub last_payload : idle_word 30 ≡ Control 0x420000fff68000cf
  pub diagnostic : idle_word 31 ≡ Control 0x6412ffff2016294b
  pub second_state : idle_word 33 ≡ Control 0x2812fffc3e00163f

-- the sent bits 1, 0, 1, 1, 0 after a skew of 2: bit 1 is named by one flip, bit 3 by two, bit 4 is dark and named by
-- one, bit 2 is dark, and a flip past the end changes nothing
pub record DamagedBits : Type 0 where
  pub received : received_bits (record { skew = 2; flips = 1 ∷ 3 ∷ 3 ∷ 4 ∷ 5 ∷ []; darks = record { first = 2; count = 1 } ∷ record { first = 4; count = 9 } ∷ [] })
      (true ∷ false ∷ true ∷ true ∷ false ∷ []) ≡ true ∷ true ∷ true ∷ true ∷ false ∷ true ∷ false ∷ []
  pub untouched : IsUndamaged (record { skew = 2; flips = 3 ∷ 3 ∷ []; darks = record { first = 1; count = 1 } ∷ [] }) (true ∷ false ∷ true ∷ true ∷ [])

-- The law on striping.
use Rattle.std.specs.Prelude.{ℕ, ◌≡◌, ◌↔◌, ◌<◌, ◌+◌, ◌*◌, List, length, get_or}
use Rattle.lk_base.specs.declared.word.Word.{Word}
use Rattle.lane_model.specs.Striping.{lane_payload}

-- each word of a stream stands on one lane, at one place
pub record WordsAreStriped : Type 0 where
  -- a lane has a payload number n exactly where the stream has word n*lanes + i
  pub count : (lanes : ℕ) (words : List Word) (i n : ℕ) → i < lanes → (n < length (lane_payload lanes words i)) ↔ (n * lanes + i < length words)
  -- and that is its word
  pub word : (lanes : ℕ) (words : List Word) (i n : ℕ) (d : Word) → i < lanes → get_or (lane_payload lanes words i) n d ≡ get_or words (n * lanes + i) d

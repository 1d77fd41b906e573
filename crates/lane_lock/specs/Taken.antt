-- Payload words that are taken by their codes.
use Rattle.std.specs.Prelude.{ℕ, ◌≡◌, ◌+◌, ◌-◌, ◌==◌, ◌&&◌, if◌then◌else◌, false, List, [], ◌∷◌, ◌++◌, replicate}
use Rattle.lk_base.specs.Checksum.{bits_of}
use Rattle.lk_base.specs.Words.{is_bad}
use Rattle.lk_base.specs.declared.word.RxWord.{RxWord}
use Rattle.lane_model.specs.declared.role.Role.TheVariants as roles
use Rattle.lock_model.specs.declared.types.LaneStep.TheVariants as steps
use Rattle.lane_lock.specs.Bytes.{Brings}
use Rattle.lane_lock.specs.Lane.{LaneView}
use Rattle.lane_lock.specs.Watch.{payloads_ahead}

-- this many payload words of a declared lock come next, before another word: none if the last bit ended no word
abbrev pub payloads_next : LaneView → ℕ
payloads_next v = if v.watching && (v.at == v.taken) then payloads_ahead v.watch else 0

-- this many bits are to come up to the end of the next word of a word lock: none if no word lock goes on
abbrev pub bits_to_end : LaneView → ℕ
bits_to_end v = if v.watching then v.at + 67 - v.taken else 0

-- This is the code of a payload word with a legal header: the last of its bits shows the word, and the others show nothing.
pub record TakesCode (v w : LaneView) (code : ℕ) : Type 0 where
  pub word : RxWord
  pub number : ℕ
  pub at : ℕ
  pub legal : is_bad word ≡ false
  pub taken : w.taken ≡ v.taken + 67
  pub brings : Brings v w (bits_of 67 code) (replicate 66 steps.Nothing ++ steps.Word word (roles.Payload number) at ∷ [])

-- these are the codes of such words, one after another
abbrev pub TakesCodes : LaneView → LaneView → List ℕ → Type 0
TakesCodes v w [] = w ≡ v
TakesCodes v w (code ∷ codes) = (u : LaneView) × TakesCode v u code × TakesCodes u w codes

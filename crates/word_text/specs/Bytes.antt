-- Bytes appended to others, one part after the other.
use Rattle.std.specs.Prelude.{ℕ, ◌≡◌, ◌+◌, ◌<◌, ◌^◌, All, Result, Ok, Err, Bool, List, ◌∷◌, ◌++◌, length, take}
use Rattle.lk_base.specs.Checksum.{bits_of_bytes}
use Rattle.lane_model.specs.LaneBits.{bits_of_codes}
use Rattle.words_files.specs.declared.text_error.TextError.{TextError}
use Rattle.word_text.specs.Lines.{ended, text_of, AreLinesOf}
use Rattle.word_text.specs.CodeLines.{IsCodeLine}
use Rattle.word_text.specs.Listings.{lane_head, IsListing}
use Rattle.word_text.specs.Refusals.{IsCodeLineOfAny, IsRefusedFor}

-- what was there stands in front
abbrev pub IsKept : List ℕ → List ℕ → Type 0
IsKept old new = take (length old) new ≡ old

-- the bytes of which the text is the listing were appended to `old`, or the text is refused
abbrev pub PutsBytes : List ℕ → List ℕ → List ℕ → Result (Unit {0}) TextError → Type 0
PutsBytes text old new (Ok done) = (bytes : List ℕ) × IsListing text bytes × (new ≡ old ++ bytes)
PutsBytes text old new (Err why) = IsRefusedFor text why

-- the first of these bits were appended to `old` as whole bytes, and `left` are the others
pub record TakesBytes (bits left : List Bool) (old new : List ℕ) : Type 0 where
  pub more : List ℕ
  pub octets : All (λ b. b < 2 ^ 8) more
  pub put : new ≡ old ++ more
  pub cut : bits ≡ bits_of_bytes more ++ left

-- the lines of a lane text before `left` are those of codes, line number `number` is the first of `left`, and these are the
-- bits of the codes
pub record CodesTold (text left : List ℕ) (number : ℕ) (bits : List Bool) : Type 0 where
  pub coded : List ℕ
  pub lines : List (List ℕ)
  pub sized : All (λ code. code < 2 ^ 67) coded
  pub each : AreLinesOf IsCodeLine coded lines
  pub theirs : bits ≡ bits_of_codes coded
  pub whole : text ≡ text_of (lane_head ∷ lines) ++ left
  pub count : number ≡ length lines + 2

-- these lines do not begin with that of a code
abbrev pub BeginsWithNoCode : List ℕ → Type 0
BeginsWithNoCode left = (line more : List ℕ) → left ≡ ended line ++ more → IsCodeLineOfAny line → ⊥

-- the lines of codes with which a lane text begins are read: their bits are appended to `old` as bytes, and `waiting` are the
-- last of them, which fill no byte
pub record CodesPut (text left : List ℕ) (number : ℕ) (waiting : List Bool) (old new : List ℕ) : Type 0 where
  pub bits : List Bool
  pub told : CodesTold text left number bits
  pub taken : TakesBytes bits waiting old new
  pub stops : BeginsWithNoCode left

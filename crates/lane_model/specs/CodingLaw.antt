-- The laws on codes.
use Rattle.std.specs.Prelude.{ℕ, ◌≡◌, ◌<◌, ◌^◌, Bool, List, [], ◌∷◌, ◌++◌, length, take, get_or, ℤ, pos, negsuc, ◌≤ℤ◌}
use Rattle.lk_base.specs.declared.word.Word.{Word}
use Rattle.lk_base.specs.Words.{payload, as_sent}
use Rattle.lane_model.specs.Coding.{code_of, code_behind, codes_of, disparity, next_disparity, word_of_code}

-- each code is that of its word after the codes before
pub record AreCodes (words : List Word) (codes : List ℕ) : Type 0 where
  pub one_each : length codes ≡ length words
  pub each : (t : ℕ) (d : Word) → t < length words → get_or codes t 0 ≡ code_behind (take t codes) (get_or words t d)

-- a list of words has these codes, and no other list
pub record CodesAreDetermined : Type 0 where
  pub has : (words : List Word) → AreCodes words (codes_of words)
  pub only : (words : List Word) (codes : List ℕ) → AreCodes words codes → codes ≡ codes_of words
  -- one word more is one code more
  pub more : (words : List Word) (word : Word) → codes_of (words ++ word ∷ []) ≡ codes_of words ++ code_behind (codes_of words) word ∷ []

pub record CodesMeanTheirWords : Type 0 where
  pub fits : (inverted : Bool) (word : Word) → payload word < 2 ^ 64 → code_of inverted word < 2 ^ 67
  pub means : (inverted : Bool) (word : Word) → payload word < 2 ^ 64 → word_of_code (code_of inverted word) ≡ as_sent word

-- the running disparity is that of the codes before, and it stays within its bounds
pub record DisparityRuns : Type 0 where
  pub start : disparity [] ≡ pos 0
  pub step : (before : List ℕ) (word : Word) → payload word < 2 ^ 64 →
      disparity (before ++ code_behind before word ∷ []) ≡ next_disparity (disparity before) (payload word)
  pub above : (r : ℤ) (x : ℕ) → negsuc 64 ≤ℤ r → r ≤ℤ pos 64 → negsuc 64 ≤ℤ next_disparity r x
  pub below : (r : ℤ) (x : ℕ) → negsuc 64 ≤ℤ r → r ≤ℤ pos 64 → next_disparity r x ≤ℤ pos 64

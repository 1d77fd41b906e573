-- Codes one after another, and their bits as bytes.
use Rattle.std.proofs.Common.{ℕ, ◌≡◌, refl, sym, ap, ◌∙◌, ◌*◌, Bool, List, [], ◌∷◌, ◌++◌, length, arith, append-nil}
use Rattle.std.proofs.lemmas.Grind.{flat_map-append}
use Rattle.lk_base.specs.Checksum.{bits_of}
use Rattle.lane_model.specs.LaneBits.{bits_of_codes}
use Rattle.lane_model.proofs.FilesHold.{length-flat_map_bits}

-- ---- one code more

pub no_codes : bits_of_codes [] ≡ []
unfolding bits_of_codes
no_codes = refl

pub codes_joined : (xs ys : List ℕ) → bits_of_codes (xs ++ ys) ≡ bits_of_codes xs ++ bits_of_codes ys
unfolding bits_of_codes
codes_joined xs ys = flat_map-append (bits_of 67) xs ys

one_code : (code : ℕ) → bits_of_codes (code ∷ []) ≡ bits_of 67 code
unfolding bits_of_codes
one_code code = append-nil (bits_of 67 code)

pub code_more : (codes : List ℕ) (code : ℕ) → bits_of_codes (codes ++ code ∷ []) ≡ bits_of_codes codes ++ bits_of 67 code
code_more codes code = codes_joined codes (code ∷ []) ∙ ap (λ (bits : List Bool). bits_of_codes codes ++ bits) (one_code code)

pub codes_length : (codes : List ℕ) → length (bits_of_codes codes) ≡ 67 * length codes
unfolding bits_of_codes
codes_length codes = length-flat_map_bits 67 codes

-- where no bit waits, the bytes have all bits
pub all_given : (given waits all : List Bool) → given ++ waits ≡ all → length waits ≡ 0 → given ≡ all
all_given given [] all before none = sym (append-nil given) ∙ before
all_given given (b ∷ bs) all before none = absurd (omega arith)

-- A code means the word that it was made for.
use Rattle.std.proofs.Common.{ℕ, ◌≡◌, refl, ◌+◌, ◌*◌, ◌/◌, ◌%◌, ◌^◌, ◌<◌, Bool, true, false, arith}
use Rattle.lk_base.specs.declared.word.Word.{Word}
use Rattle.lk_base.specs.declared.word.Word.TheVariants.{Data, Control}
use Rattle.lk_base.specs.Words.{payload, as_sent}
use Rattle.lane_model.specs.Coding.{header_for, code_of, word_of_code, is_legal, header_in, payload_in, inverse_of}
use Rattle.lane_model.specs.CodingLaw.{CodesMeanTheirWords}

-- the parts of a code
parts : (i h x : ℕ) → i < 2 → h < 4 → x < 2 ^ 64 →
    ((i * 2 ^ 66 + h * 2 ^ 64 + x) / 2 ^ 64 % 4 ≡ h) × ((i * 2 ^ 66 + h * 2 ^ 64 + x) / 2 ^ 66 ≡ i) × ((i * 2 ^ 66 + h * 2 ^ 64 + x) % 2 ^ 64 ≡ x)
parts i h x li lh lx = (omega arith, omega arith, omega arith)

pub code_of-below : (inverted : Bool) (word : Word) → payload word < 2 ^ 64 → code_of inverted word < 2 ^ 67
unfolding code_of
code_of-below true (Data x) h = omega arith
code_of-below true (Control x) h = omega arith
code_of-below false (Data x) h = omega arith
code_of-below false (Control x) h = omega arith

pub header-code_of : (inverted : Bool) (word : Word) → payload word < 2 ^ 64 → header_in (code_of inverted word) ≡ header_for word
unfolding code_of
header-code_of true (Data x) h = (parts 1 1 (inverse_of x) (omega arith) (omega arith) (omega arith)).0
header-code_of true (Control x) h = (parts 1 2 (inverse_of x) (omega arith) (omega arith) (omega arith)).0
header-code_of false (Data x) h = (parts 0 1 x (omega arith) (omega arith) h).0
header-code_of false (Control x) h = (parts 0 2 x (omega arith) (omega arith) h).0

pub legal-code_of : (inverted : Bool) (word : Word) → payload word < 2 ^ 64 → is_legal (code_of inverted word) ≡ true
legal-code_of inverted (Data x) h = rw (header-code_of inverted (Data x) h) refl
legal-code_of inverted (Control x) h = rw (header-code_of inverted (Control x) h) refl

payload_back : (x : ℕ) → x < 2 ^ 64 → inverse_of (inverse_of x) ≡ x
payload_back x h = omega arith

payload-code_of : (inverted : Bool) (word : Word) → payload word < 2 ^ 64 → payload_in (code_of inverted word) ≡ payload word
unfolding code_of
payload-code_of true (Data x) h = let p = parts 1 1 (inverse_of x) (omega arith) (omega arith) (omega arith) in rw (p.1, p.2) (payload_back x h)
payload-code_of true (Control x) h = let p = parts 1 2 (inverse_of x) (omega arith) (omega arith) (omega arith) in rw (p.1, p.2) (payload_back x h)
payload-code_of false (Data x) h = let p = parts 0 1 x (omega arith) (omega arith) h in rw (p.1, p.2) refl
payload-code_of false (Control x) h = let p = parts 0 2 x (omega arith) (omega arith) h in rw (p.1, p.2) refl

pub word-code_of : (inverted : Bool) (word : Word) → payload word < 2 ^ 64 → word_of_code (code_of inverted word) ≡ as_sent word
unfolding word_of_code
word-code_of inverted (Data x) h = rw (header-code_of inverted (Data x) h, payload-code_of inverted (Data x) h) refl
word-code_of inverted (Control x) h = rw (header-code_of inverted (Control x) h, payload-code_of inverted (Control x) h) refl

pub codes_mean : CodesMeanTheirWords
codes_mean = record { fits = code_of-below; means = word-code_of }

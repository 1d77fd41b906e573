-- The last line of a lane whose bits end inside a code.
use Rattle.std.proofs.Common.{◌≡◌, ◌≢◌, ◌==◌, ℕ, ◌<◌, Bool, true, false, List, [], ◌∷◌, ◌++◌, All, length, map, drop, refl, sym, ap, ◌∙◌, arith, subst}
use Rattle.word_text.specs.Digits.{bit_glyph}
use Rattle.word_text.specs.Lines.{ended}
use Rattle.word_text.specs.CodeLines.{rest_line, rest_lines, IsCodeLine}
use Rattle.word_text.specs.Refusals.{IsRestLine}
use Rattle.word_text.proofs.Spelled.{lacks}
use Rattle.word_text.proofs.CodeText.{first-byte, glyph-back}
use Rattle.word_text.proofs.Pieces.{cut-once, lacks-all}

-- a line of rest bits, with its bits
pub record RestOf (line : List ℕ) : Type 0 where
  pub bits : List Bool
  pub some : 0 < length bits
  pub short : length bits < 67
  pub is : line ≡ rest_line bits

line-of : (line other : List ℕ) → line ∷ [] ≡ other ∷ [] → line ≡ other
line-of line other e = cc

pub rest-of-line : (line : List ℕ) → IsRestLine line → RestOf line
rest-of-line line ([], short, e) = absurd cc
rest-of-line line (b ∷ bits, short, e) = record { bits = b ∷ bits; some = omega arith; short = short; is = line-of line (rest_line (b ∷ bits)) e }

pub line-of-rest : (line : List ℕ) (bits : List Bool) → 0 < length bits → length bits < 67 → line ≡ rest_line bits → IsRestLine line
line-of-rest line [] h k e = absurd (omega arith)
line-of-rest line (b ∷ bits) h k e = (b ∷ bits, k, ap (λ (l : List ℕ). l ∷ []) e)

pub one-rest : (rest : List Bool) → 0 < length rest → rest_lines rest ≡ rest_line rest ∷ []
one-rest [] h = absurd (omega arith)
one-rest (b ∷ rest) h = refl

pub bits-back : (bits : List Bool) → map (λ b. b == 49) (map bit_glyph bits) ≡ bits
bits-back [] = refl
bits-back (b ∷ bits) = let first = glyph-back b in let others = bits-back bits in cc

pub same-rest : (a b : List Bool) → rest_line a ≡ rest_line b → a ≡ b
same-rest a b e = sym (bits-back a) ∙ ap (λ (l : List ℕ). map (λ x. x == 49) (drop 5 l)) e ∙ bits-back b

glyphs-lack : (bits : List Bool) → lacks 10 (map bit_glyph bits) ≡ true
glyphs-lack [] = refl
glyphs-lack (true ∷ bits) = glyphs-lack bits
glyphs-lack (false ∷ bits) = glyphs-lack bits

pub rest-lacks : (bits : List Bool) → lacks 10 (rest_line bits) ≡ true
rest-lacks bits = glyphs-lack bits

-- it is no line of a code
pub rest-no-code : (bits : List Bool) (code : ℕ) → IsCodeLine code (rest_line bits) → ⊥
rest-no-code bits code h = first-byte code (rest_line bits) h refl

-- the line in front is no line of rest bits
pub no-rest : (left front behind : List ℕ) → left ≡ ended front ++ behind → All (λ b. b ≢ 10) front → (IsRestLine front → ⊥) → (line more : List ℕ) → left ≡ ended line ++ more → IsRestLine line → ⊥
no-rest left front behind e h f line more g r =
    let rest = rest-of-line line r in
    let (same, others) = cut-once line front more behind (ap (lacks 10) rest.is ∙ rest-lacks rest.bits) (lacks-all front h) (sym g ∙ e) in
    f (subst IsRestLine same r)

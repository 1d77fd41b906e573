-- Hexadecimal digits, one by one from the last.
use Rattle.std.proofs.Common.{ℕ, zero, suc, ◌≡◌, refl, ap, ◌∙◌, ◌/◌, ◌%◌, true, List, [], ◌∷◌, ◌++◌, length, length-append, arith}
use Rattle.std.specs.Fmt.{digit_glyph}
use Rattle.lk_base.specs.Hex.{hex}

pub hex-zero : (x : ℕ) → hex 0 x ≡ []
unfolding hex
hex-zero x = refl

pub hex-suc : (n x : ℕ) → hex (suc n) x ≡ hex n (x / 16) ++ digit_glyph true (x % 16) ∷ []
unfolding hex
hex-suc n x = refl

pub length-hex : (n x : ℕ) → length (hex n x) ≡ n
length-hex zero x = ap (λ (l : List ℕ). length l) (hex-zero x)
length-hex (suc n) x =
    let size = ap (λ (l : List ℕ). length l) (hex-suc n x) ∙ length-append (hex n (x / 16)) (digit_glyph true (x % 16) ∷ []) in
    let low = length-hex n (x / 16) in
    omega (arith, size, low)

-- Two numbers have one sign exactly where their highest bits are the same.
use Rattle.std.proofs.Common.{ℕ, zero, suc, ◌≡◌, ◌≢◌, refl, ap, ◌∙◌, ◌+◌, ◌-◌, ◌*◌, ◌^◌, ◌<◌, ◌≤◌, true, false, arith, bit_xor, to_z, of_z, w32}
use Rattle.std.specs.Prelude.{ℤ, pos, negsuc, ◌&&◌, ◌||◌, int_le, int_lt}
use Rattle.std.proofs.lemmas.Bool.{le-leb, le-ltb, lt-ltb}
use Rattle.std.proofs.lemmas.Nat.{xor_block, xor_lt}
use mir.Val.{SFits}
use Rattle.coding_67b.proofs.codes.inverts.Goals as goal

not_below : (n : ℕ) → n < 2 ^ 31 → int_le (pos 0) (to_z w32 n) ≡ true
not_below n h = rw (lt-ltb n (2 ^ 31) h) (le-leb 0 n (omega arith))

below : (n : ℕ) → 2 ^ 31 ≤ n → int_le (pos 0) (to_z w32 n) ≡ false
below n h = rw (le-ltb n (2 ^ 31) h) refl

both_high : (x y : ℕ) → x < 2 ^ 31 → y < 2 ^ 31 → bit_xor (2 ^ 32 - suc x) (2 ^ 32 - suc y) < 2 ^ 31
both_high x y h k =
    let e : 2 ^ 32 - suc x ≡ 1 * 2 ^ 31 + (2 ^ 31 - suc x) = omega arith in
    let f : 2 ^ 32 - suc y ≡ 1 * 2 ^ 31 + (2 ^ 31 - suc y) = omega arith in
    let r : 2 ^ 31 - suc x < 2 ^ 31 = omega arith in
    let s : 2 ^ 31 - suc y < 2 ^ 31 = omega arith in
    let l = xor_lt 31 (2 ^ 31 - suc x) (2 ^ 31 - suc y) r s in
    let g : bit_xor (2 ^ 32 - suc x) (2 ^ 32 - suc y) ≡ bit_xor 1 1 * 2 ^ 31 + bit_xor (2 ^ 31 - suc x) (2 ^ 31 - suc y) = ap (λ n. bit_xor n (2 ^ 32 - suc y)) e ∙ ap (bit_xor (1 * 2 ^ 31 + (2 ^ 31 - suc x))) f ∙ xor_block 31 1 1 (2 ^ 31 - suc x) (2 ^ 31 - suc y) r s in
    omega (arith, g, l)

first_high : (x y : ℕ) → x < 2 ^ 31 → y < 2 ^ 31 → 2 ^ 31 ≤ bit_xor (2 ^ 32 - suc x) y
first_high x y h k =
    let e : 2 ^ 32 - suc x ≡ 1 * 2 ^ 31 + (2 ^ 31 - suc x) = omega arith in
    let f : y ≡ 0 * 2 ^ 31 + y = omega arith in
    let r : 2 ^ 31 - suc x < 2 ^ 31 = omega arith in
    let g : bit_xor (2 ^ 32 - suc x) y ≡ bit_xor 1 0 * 2 ^ 31 + bit_xor (2 ^ 31 - suc x) y = ap (λ n. bit_xor n y) e ∙ ap (bit_xor (1 * 2 ^ 31 + (2 ^ 31 - suc x))) f ∙ xor_block 31 1 0 (2 ^ 31 - suc x) y r k in
    omega (arith, g)

second_high : (x y : ℕ) → x < 2 ^ 31 → y < 2 ^ 31 → 2 ^ 31 ≤ bit_xor x (2 ^ 32 - suc y)
second_high x y h k =
    let e : x ≡ 0 * 2 ^ 31 + x = omega arith in
    let f : 2 ^ 32 - suc y ≡ 1 * 2 ^ 31 + (2 ^ 31 - suc y) = omega arith in
    let s : 2 ^ 31 - suc y < 2 ^ 31 = omega arith in
    let g : bit_xor x (2 ^ 32 - suc y) ≡ bit_xor 0 1 * 2 ^ 31 + bit_xor x (2 ^ 31 - suc y) = ap (bit_xor x) f ∙ ap (λ n. bit_xor n (1 * 2 ^ 31 + (2 ^ 31 - suc y))) e ∙ xor_block 31 0 1 x (2 ^ 31 - suc y) h s in
    omega (arith, g)

one_sign : (d w : ℤ) → SFits w32 d → SFits w32 w → w ≢ pos 0 → int_le (pos 0) (to_z w32 (bit_xor (of_z w32 d) (of_z w32 w))) ≡ ((int_le (pos 0) d && int_lt (pos 0) w) || (int_lt d (pos 0) && int_lt w (pos 0)))
one_sign (pos a) (pos zero) f g none = absurd (none refl)
one_sign (pos a) (pos (suc b)) f g none = not_below (bit_xor a (suc b)) (xor_lt 31 a (suc b) f.sfits g.sfits) ∙ rw (le-leb 0 a (omega arith), lt-ltb 0 (suc b) (omega arith)) refl
one_sign (pos a) (negsuc b) f g none = below (bit_xor a (2 ^ 32 - suc b)) (second_high a b f.sfits g.sfits) ∙ rw (le-leb 0 a (omega arith), le-ltb a 0 (omega arith)) refl
one_sign (negsuc a) (pos b) f g none = below (bit_xor (2 ^ 32 - suc a) b) (first_high a b f.sfits g.sfits) ∙ rw (le-ltb b 0 (omega arith)) refl
one_sign (negsuc a) (negsuc b) f g none = not_below (bit_xor (2 ^ 32 - suc a) (2 ^ 32 - suc b)) (both_high a b f.sfits g.sfits)

pub returns : goal.returns
returns c = one_sign c.args.disparity c.args.weight c.ranges.disparity c.ranges.weight c.requires

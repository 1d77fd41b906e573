-- The bits of bytes as a number.
use Rattle.std.proofs.Common.{ℕ, ◌≡◌, sym, ap, ◌∙◌, subst, ◌+◌, ◌-◌, ◌*◌, ◌/◌, ◌^◌, ◌<◌, ◌≤◌, Bool, List, [], ◌∷◌, ◌++◌, length, get_or, take, drop, arith}
use Rattle.std.proofs.Math.Pow.{pow_mono}
use Rattle.std.proofs.Math.Seq.{take-add}
use Rattle.std.proofs.lemmas.List.{length-drop, length-take-le, take_at, take_more}
use Rattle.std.proofs.lemmas.List.Concat.{flat_map-append}
use Rattle.std.proofs.lemmas.Nat.{div_below, pow-add, pow_pos}
use Rattle.lane_model.proofs.FilesHold.{length-flat_map_bits}
use Rattle.lane_model.proofs.Numbers.{length-bits_of}
use Rattle.lk_base.specs.Checksum.{bits_of, bits_of_bytes}
use Rattle.lk_base.proofs.Bits.{bits-byte, bits-cut, bits-joined, no_bits}

-- this is the number of the first k bytes
pub record IsNumber (bytes : List ℕ) (k bits : ℕ) : Type 0 where
  pub are : bits_of (8 * k) bits ≡ bits_of_bytes (take k bytes)
  pub below : bits < 2 ^ (8 * k)

pub none_numbered : (bytes : List ℕ) → IsNumber bytes 0 0
none_numbered bytes = record { are = no_bits 0; below = omega arith }

-- with the next byte
pub one_numbered : (bytes : List ℕ) (k bits byte : ℕ) → k < length bytes → byte < 256 → byte ≡ get_or bytes k 0 → IsNumber bytes k bits → IsNumber bytes (k + 1) (bits * 256 + byte)
one_numbered bytes k bits byte lt low is n =
    let e : 8 * (k + 1) ≡ 8 * k + 8 = omega arith in
    let p : 2 ^ (8 * (k + 1)) ≡ 2 ^ (8 * k) * 256 = ap (λ (m : ℕ). 2 ^ m) e ∙ pow-add 2 (8 * k) 8 in
    let b = n.below in
    record {
      are = ap (λ (m : ℕ). bits_of m (bits * 256 + byte)) e ∙ bits-joined (8 * k) 8 bits byte low ∙ ap (λ bs. bs ++ bits_of 8 byte) n.are
          ∙ sym (ap bits_of_bytes (take_more bytes k 0 lt ∙ ap (λ (x : ℕ). take k bytes ++ x ∷ []) (sym is)) ∙ bits-byte (take k bytes) byte);
      below = omega (arith, p, b, low);
    }

-- that of a few bytes is low
pub number_low : (bytes : List ℕ) (k bits : ℕ) → k ≤ 6 → IsNumber bytes k bits → bits < 2 ^ 48
number_low bytes k bits le n = (let b = n.below in let m : 2 ^ (8 * k) ≤ 2 ^ 48 = pow_mono {i = 8 * k} {j = 48} (omega (arith, le)) in omega (arith, b, m))

-- that of the first bytes of eight, whose number is known
pub first_numbered : (bytes : List ℕ) (at c x : ℕ) → c ≤ 8 → at + 8 ≤ length bytes → bits_of 64 x ≡ bits_of_bytes (take 8 (drop at bytes)) →
    bits_of (8 * c) (x / 2 ^ (64 - 8 * c)) ≡ bits_of_bytes (take c (drop at bytes))
first_numbered bytes at c x le there same =
    let rest = drop at bytes in
    let m = 64 - 8 * c in
    let e : 8 * c + m ≡ 64 = omega (arith, le) in
    let f : c + (8 - c) ≡ 8 = omega (arith, le) in
    let left = length-drop at bytes in
    let long : length (bits_of_bytes (take c rest)) ≡ 8 * c = length-flat_map_bits 8 (take c rest) ∙ ap (λ (n : ℕ). 8 * n) (length-take-le c rest (omega (arith, there, left, le))) in
    let number : bits_of 64 x ≡ bits_of (8 * c) (x / 2 ^ m) ++ bits_of m x = ap (λ (k : ℕ). bits_of k x) (sym e) ∙ bits-cut (8 * c) m x in
    let eight : bits_of_bytes (take 8 rest) ≡ bits_of_bytes (take c rest) ++ bits_of_bytes (take (8 - c) (drop c rest)) =
    ap (λ (k : ℕ). bits_of_bytes (take k rest)) (sym f) ∙ ap bits_of_bytes (take-add c (8 - c) rest) ∙ flat_map-append (bits_of 8) (take c rest) (take (8 - c) (drop c rest)) in
    sym (take_at (bits_of (8 * c) (x / 2 ^ m)) (bits_of m x) (8 * c) (length-bits_of (8 * c) (x / 2 ^ m)))
    ∙ ap (λ (bits : List Bool). take (8 * c) bits) (sym number ∙ same ∙ eight)
    ∙ take_at (bits_of_bytes (take c rest)) (bits_of_bytes (take (8 - c) (drop c rest))) (8 * c) long

-- it is low
pub first_low : (c x : ℕ) → c ≤ 8 → x < 2 ^ 64 → x / 2 ^ (64 - 8 * c) < 2 ^ (8 * c)
first_low c x le lt =
    let e : 8 * c + (64 - 8 * c) ≡ 64 = omega (arith, le) in
    let p : 2 ^ 64 ≡ 2 ^ (8 * c) * 2 ^ (64 - 8 * c) = ap (λ (m : ℕ). 2 ^ m) (sym e) ∙ pow-add 2 (8 * c) (64 - 8 * c) in
    div_below x (2 ^ (64 - 8 * c)) (2 ^ (8 * c)) (pow_pos (64 - 8 * c)) (subst (λ (n : ℕ). x < n) p lt)

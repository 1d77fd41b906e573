-- The bits of bytes from any bit on.
use Rattle.std.proofs.Common.{ℕ, ◌≡◌, sym, ap, ◌∙◌, ◌+◌, ◌-◌, ◌*◌, ◌/◌, ◌%◌, ◌^◌, ◌<◌, ◌≤◌, Bool, List, ◌++◌, length, take, drop, arith, bit_and, bit_or}
use Rattle.std.proofs.Math.Seq.{drop-append-add, take-add}
use Rattle.std.proofs.lemmas.List.{drop-append-le, drop-drop, drop_at, length-drop, length-take-le, take-append-drop, take-append-le, take_at}
use Rattle.std.proofs.lemmas.List.Concat.{flat_map-append}
use Rattle.std.proofs.lemmas.Nat.{and_mask, or_shifted, shl_whole}
use Rattle.lk_base.specs.Checksum.{bits_of, bits_of_bytes}
use Rattle.lane_model.proofs.FilesHold.{length-flat_map_bits}
use Rattle.lane_model.proofs.Numbers.{length-bits_of}
use Rattle.lk_base.proofs.Bits.{bits-cut, bits-joined, bits-mod}

-- ---- some bits of some bytes

-- the bits of a number from bit k on, counted from the highest
middle : (k n m x : ℕ) → take n (drop k (bits_of (k + (n + m)) x)) ≡ bits_of n (x / 2 ^ m)
middle k n m x =
    ap (λ (bits : List Bool). take n (drop k bits)) (bits-cut k (n + m) x)
    ∙ ap (take n) (drop_at (bits_of k (x / 2 ^ (n + m))) (bits_of (n + m) x) k (length-bits_of k (x / 2 ^ (n + m))) ∙ bits-cut n m x)
    ∙ take_at (bits_of n (x / 2 ^ m)) (bits_of m x) n (length-bits_of n (x / 2 ^ m))

-- the bits of c bytes from a place on
pub within : (bytes : List ℕ) (place c o n at : ℕ) → at ≡ 8 * place + o → place + c ≤ length bytes → o + n ≤ 8 * c →
    take n (drop at (bits_of_bytes bytes)) ≡ take n (drop o (bits_of_bytes (take c (drop place bytes))))
within bytes place c o n at is there few =
    let front = bits_of_bytes (take place bytes) in
    let back = bits_of_bytes (drop place bytes) in
    let some = bits_of_bytes (take c (drop place bytes)) in
    let rest = bits_of_bytes (drop c (drop place bytes)) in
    let long : length front ≡ 8 * place = length-flat_map_bits 8 (take place bytes) ∙ ap (λ n. 8 * n) (length-take-le place bytes (omega (arith, there))) in
    let d = length-drop place bytes in
    let all : length some ≡ 8 * c = length-flat_map_bits 8 (take c (drop place bytes)) ∙ ap (λ n. 8 * n) (length-take-le c (drop place bytes) (omega (arith, there, d))) in
    let first : bits_of_bytes bytes ≡ front ++ back = sym (ap bits_of_bytes (take-append-drop place bytes)) ∙ flat_map-append (bits_of 8) (take place bytes) (drop place bytes) in
    let second : back ≡ some ++ rest = sym (ap bits_of_bytes (take-append-drop c (drop place bytes))) ∙ flat_map-append (bits_of 8) (take c (drop place bytes)) (drop c (drop place bytes)) in
    let e : at ≡ length front + o = omega (arith, is, long) in
    let l = length-drop o some in
    ap (λ (bits : List Bool). take n (drop at bits)) first
    ∙ ap (λ (k : ℕ). take n (drop k (front ++ back))) e
    ∙ ap (take n) (drop-append-add front back o ∙ ap (drop o) second ∙ drop-append-le o some rest (omega (arith, all, few)))
    ∙ take-append-le n (drop o some) rest (omega (arith, l, all, few))

-- those of a number that has the bits of c bytes
numbered : (bytes : List ℕ) (place c o n m at x : ℕ) → at ≡ 8 * place + o → place + c ≤ length bytes → 8 * c ≡ o + (n + m) → bits_of (8 * c) x ≡ bits_of_bytes (take c (drop place bytes)) →
    bits_of n (x / 2 ^ m) ≡ take n (drop at (bits_of_bytes bytes))
numbered bytes place c o n m at x is there e same =
    sym (within bytes place c o n at is there (omega (arith, e)) ∙ ap (λ (bits : List Bool). take n (drop o bits)) (sym same ∙ ap (λ (k : ℕ). bits_of k x) e) ∙ middle o n m x)

-- 56 bits at most
pub some_bits : (bytes : List ℕ) (place n m at x : ℕ) → 8 * place ≤ at → place + 8 ≤ length bytes → m + n + (at - 8 * place) ≡ 64 → bits_of 64 x ≡ bits_of_bytes (take 8 (drop place bytes)) →
    bits_of n (x / 2 ^ m % 2 ^ n) ≡ take n (drop at (bits_of_bytes bytes))
some_bits bytes place n m at x low there e same =
    bits-mod n n (x / 2 ^ m) (omega arith) ∙ numbered bytes place 8 (at - 8 * place) n m at x (omega (arith, low)) there (omega (arith, e)) same

-- a whole code
two_eights : (bytes : List ℕ) (place high low : ℕ) → low < 2 ^ 64 → bits_of 64 high ≡ bits_of_bytes (take 8 (drop place bytes)) → bits_of 64 low ≡ bits_of_bytes (take 8 (drop (place + 8) bytes)) →
    bits_of 128 (high * 2 ^ 64 + low) ≡ bits_of_bytes (take 16 (drop place bytes))
two_eights bytes place high low less first second =
    bits-joined 64 64 high low less
    ∙ ap (λ (bits : List Bool). bits ++ bits_of 64 low) first
    ∙ ap (λ (bits : List Bool). bits_of_bytes (take 8 (drop place bytes)) ++ bits) (second ∙ ap (λ (bs : List ℕ). bits_of_bytes (take 8 bs)) (sym (drop-drop 8 place bytes)))
    ∙ sym (flat_map-append (bits_of 8) (take 8 (drop place bytes)) (take 8 (drop 8 (drop place bytes)))) ∙ ap bits_of_bytes (sym (take-add 8 8 (drop place bytes)))

pub code_bits : (bytes : List ℕ) (place m at high low : ℕ) → 8 * place ≤ at → place + 16 ≤ length bytes → m + 67 + (at - 8 * place) ≡ 128 → high < 2 ^ 64 → low < 2 ^ 64 →
    bits_of 64 high ≡ bits_of_bytes (take 8 (drop place bytes)) → bits_of 64 low ≡ bits_of_bytes (take 8 (drop (place + 8) bytes)) →
    bits_of 67 (bit_and (bit_or (high * 2 ^ 64 % 2 ^ 128) low / 2 ^ (m % 64)) (2 ^ 67 - 1)) ≡ take 67 (drop at (bits_of_bytes bytes))
code_bits bytes place m at high low from there e less below first second =
    let small : m % 64 ≡ m = omega (arith, e) in
    let joined : bit_or (high * 2 ^ 64 % 2 ^ 128) low ≡ high * 2 ^ 64 + low = ap (λ (x : ℕ). bit_or x low) (shl_whole high 64 64 128 less (omega arith)) ∙ or_shifted high 64 low below in
    ap (λ (k : ℕ). bits_of 67 (bit_and (bit_or (high * 2 ^ 64 % 2 ^ 128) low / 2 ^ k) (2 ^ 67 - 1))) small
    ∙ ap (λ (x : ℕ). bits_of 67 (bit_and (x / 2 ^ m) (2 ^ 67 - 1))) joined
    ∙ ap (bits_of 67) (and_mask ((high * 2 ^ 64 + low) / 2 ^ m) 67)
    ∙ bits-mod 67 67 ((high * 2 ^ 64 + low) / 2 ^ m) (omega arith)
    ∙ numbered bytes place 16 (at - 8 * place) 67 m at (high * 2 ^ 64 + low) (omega (arith, from)) there (omega (arith, e)) (two_eights bytes place high low below first second)

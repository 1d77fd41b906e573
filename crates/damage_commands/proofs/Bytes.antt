-- Bytes at any place among bits.
use Rattle.std.proofs.Common.{ℕ, zero, suc, ◌≡◌, refl, sym, ap, ◌∙◌, ◌+◌, ◌-◌, ◌*◌, ◌/◌, ◌%◌, ◌^◌, ◌<◌, ◌≤◌, Bool, List, [], ◌∷◌, ◌++◌, length, take, drop, get_or, arith, bit_and, bit_or, append_assoc}
use Rattle.std.proofs.Math.Seq.{drop-append-add, drop-append_seam, take-append_seam}
use Rattle.std.proofs.lemmas.List.{drop-drop}
use Rattle.std.proofs.lemmas.Nat.{and_mask, or_shifted}
use Rattle.lk_base.specs.Checksum.{bits_of, bits_of_bytes}
use Rattle.lk_base.proofs.Bits.{bits-cut, bits-joined, bits-mod}
use Rattle.lane_model.proofs.Numbers.{length-bits_of}

seam_at : (xs ys : List Bool) (n : ℕ) → length xs ≡ n → take n (xs ++ ys) ≡ xs
seam_at xs ys n e = ap (λ k. take k (xs ++ ys)) (sym e) ∙ take-append_seam xs ys

past_at : (xs ys : List Bool) (n : ℕ) → length xs ≡ n → drop n (xs ++ ys) ≡ ys
past_at xs ys n e = ap (λ k. drop k (xs ++ ys)) (sym e) ∙ drop-append_seam xs ys

-- whole bytes are left out
drop_bytes : (bytes : List ℕ) (q : ℕ) → drop (8 * q) (bits_of_bytes bytes) ≡ bits_of_bytes (drop q bytes)
drop_bytes bytes zero = refl
drop_bytes [] (suc q) = nothing (8 * suc q)
  where
    nothing : (n : ℕ) → drop n (bits_of_bytes []) ≡ bits_of_bytes []
    nothing zero = refl
    nothing (suc n) = refl
drop_bytes (b ∷ bytes) (suc q) =
    let e : 8 * suc q ≡ 8 + 8 * q = omega arith in
    ap (λ n. drop n (bits_of 8 b ++ bits_of_bytes bytes)) e
    ∙ ap (λ n. drop (n + 8 * q) (bits_of 8 b ++ bits_of_bytes bytes)) (sym (length-bits_of 8 b))
    ∙ drop-append-add (bits_of 8 b) (bits_of_bytes bytes) (8 * q)
    ∙ drop_bytes bytes q

drop_here : (bytes : List ℕ) (q : ℕ) → q < length bytes → drop q bytes ≡ get_or bytes q 0 ∷ drop (suc q) bytes
drop_here [] q lt = absurd (omega arith)
drop_here (b ∷ bytes) zero lt = refl
drop_here (b ∷ bytes) (suc q) lt = drop_here bytes q (omega arith)

drop_at : (bytes : List ℕ) (q : ℕ) → q < length bytes → drop q bytes ≡ get_or bytes q 0 ∷ drop (q + 1) bytes
drop_at bytes q lt = let e : suc q ≡ q + 1 = omega arith in drop_here bytes q lt ∙ ap (λ k. get_or bytes q 0 ∷ drop k bytes) e

-- the byte at a place of a whole byte
pub whole_byte : (bytes : List ℕ) (place : ℕ) → place + 8 ≤ 8 * length bytes → place % 8 ≡ 0 → bits_of 8 (get_or bytes (place / 8) 0) ≡ take 8 (drop place (bits_of_bytes bytes))
whole_byte bytes place there even =
    let q = place / 8 in
    let e : place ≡ 8 * q = omega (arith, even) in
    let lt : q < length bytes = omega (arith, there) in
    let here = get_or bytes q 0 in
    sym (ap (λ n. take 8 (drop n (bits_of_bytes bytes))) e
    ∙ ap (take 8) (drop_bytes bytes q ∙ ap bits_of_bytes (drop_at bytes q lt))
    ∙ seam_at (bits_of 8 here) (bits_of_bytes (drop (q + 1) bytes)) 8 (length-bits_of 8 here))

-- eight bits of two bytes
within_two : (x y s : ℕ) (rest : List Bool) → y < 2 ^ 8 → s < 8 → take 8 (drop s (bits_of 8 x ++ (bits_of 8 y ++ rest))) ≡ bits_of 8 ((x * 2 ^ 8 + y) / 2 ^ (8 - s))
within_two x y s rest low h =
    let u = x * 2 ^ 8 + y in
    let v = u / 2 ^ (8 - s) in
    let sum : 16 ≡ s + (8 + (8 - s)) = omega (arith, h) in
    let front = bits_of s (u / 2 ^ (8 + (8 - s))) in
    let cut : bits_of 16 u ≡ front ++ (bits_of 8 v ++ bits_of (8 - s) u) =
    ap (λ n. bits_of n u) sum ∙ bits-cut s (8 + (8 - s)) u ∙ ap (λ (bs : List Bool). front ++ bs) (bits-cut 8 (8 - s) u) in
    let all : bits_of 8 x ++ (bits_of 8 y ++ rest) ≡ front ++ (bits_of 8 v ++ (bits_of (8 - s) u ++ rest)) =
    sym (append_assoc (bits_of 8 x) (bits_of 8 y) rest)
    ∙ ap (λ (bs : List Bool). bs ++ rest) (sym (bits-joined 8 8 x y low) ∙ cut)
    ∙ append_assoc front (bits_of 8 v ++ bits_of (8 - s) u) rest
    ∙ ap (λ (bs : List Bool). front ++ bs) (append_assoc (bits_of 8 v) (bits_of (8 - s) u) rest) in
    ap (λ (bs : List Bool). take 8 (drop s bs)) all
    ∙ ap (take 8) (past_at front (bits_of 8 v ++ (bits_of (8 - s) u ++ rest)) s (length-bits_of s (u / 2 ^ (8 + (8 - s)))))
    ∙ seam_at (bits_of 8 v) (bits_of (8 - s) u ++ rest) 8 (length-bits_of 8 v)

masked : (x y s : ℕ) → x < 256 → y < 256 → bits_of 8 (bit_and (bit_or (x * 256 % 4294967296) y / 2 ^ (8 - s)) 255) ≡ bits_of 8 ((x * 2 ^ 8 + y) / 2 ^ (8 - s))
masked x y s hx hy =
    let e : x * 256 % 4294967296 ≡ x * 2 ^ 8 = omega (arith, hx) in
    let v = (x * 2 ^ 8 + y) / 2 ^ (8 - s) in
    ap (λ n. bits_of 8 (bit_and (bit_or n y / 2 ^ (8 - s)) 255)) e
    ∙ ap (λ n. bits_of 8 (bit_and (n / 2 ^ (8 - s)) 255)) (or_shifted x 8 y hy)
    ∙ ap (bits_of 8) (and_mask v 8) ∙ bits-mod 8 8 v (omega arith)

pub byte_between : (bytes : List ℕ) (place : ℕ) → place + 8 ≤ 8 * length bytes → 0 < place % 8 → get_or bytes (place / 8) 0 < 256 → get_or bytes (place / 8 + 1) 0 < 256 →
    bits_of 8 (bit_and (bit_or (get_or bytes (place / 8) 0 * 256 % 4294967296) (get_or bytes (place / 8 + 1) 0) / 2 ^ (8 - place % 8)) 255) ≡ take 8 (drop place (bits_of_bytes bytes))
byte_between bytes place there odd hx hy =
    let q = place / 8 in
    let s = place % 8 in
    let x = get_or bytes q 0 in
    let y = get_or bytes (q + 1) 0 in
    let e : place ≡ 8 * q + s = omega arith in
    let first : q < length bytes = omega (arith, there) in
    let second : q + 1 < length bytes = omega (arith, there, odd) in
    let low : s < 8 = omega arith in
    masked x y s hx hy
    ∙ sym (ap (λ n. take 8 (drop n (bits_of_bytes bytes))) e
    ∙ ap (take 8) (sym (drop-drop s (8 * q) (bits_of_bytes bytes)))
    ∙ ap (λ (bs : List Bool). take 8 (drop s bs)) (drop_bytes bytes q ∙ ap bits_of_bytes (drop_at bytes q first ∙ ap (λ (bs : List ℕ). x ∷ bs) (drop_at bytes (q + 1) second)))
    ∙ within_two x y s (bits_of_bytes (drop (q + 1 + 1) bytes)) hy low)

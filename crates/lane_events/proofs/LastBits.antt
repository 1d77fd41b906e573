-- The last bits of a lane as a number.
use Rattle.std.proofs.Common.{ℕ, ◌≡◌, sym, ap, ◌∙◌, ◌+◌, ◌-◌, ◌*◌, ◌/◌, ◌%◌, ◌^◌, ◌<◌, ◌≤◌, Bool, List, ◌++◌, length, take, drop, reverse, arith, length-drop, bit_or}
use Rattle.std.proofs.lemmas.List.{reverse-append, length-reverse, take-append-drop, take_all}
use Rattle.std.proofs.lemmas.Nat.{div-mul-add, field_of, mod-mul-add, mod-pow-add, mod_low, mul-mod_first, or_shifted}
use Rattle.std.proofs.Math.Pow.{pow_pos}
use Rattle.std.proofs.Math.Nat.{add-mod, mul_comm, mul-mod_right}
use Rattle.std.proofs.Math.Pow.{mod-mod-pow}
use Rattle.lane_model.specs.Bits.{high_number, low_number}
use Rattle.lk_base.specs.Checksum.{bits_of}
use Rattle.lane_model.proofs.Numbers.{below-high_number, length-bits_of, number-bits_of}
use Rattle.lock_model.specs.Locks.{code_at}
use Rattle.lock_model.proofs.Reading.{low_number-append}

pub high_append : (xs ys : List Bool) → high_number (xs ++ ys) ≡ high_number xs * 2 ^ length ys + high_number ys
high_append xs ys =
    ap low_number (reverse-append xs ys) ∙ low_number-append (reverse ys) (reverse xs)
    ∙ ap (λ (n : ℕ). low_number (reverse ys) + 2 ^ n * low_number (reverse xs)) (length-reverse ys)
    ∙ turned (high_number ys) (2 ^ length ys) (high_number xs)
  where
    turned : (a m k : ℕ) → a + m * k ≡ k * m + a
    turned a m k = let c = mul_comm m k in omega arith

-- the code that ends with the last bit
window_is : (bits : List Bool) (q : ℕ) → q + 67 ≡ length bits → high_number bits % 2 ^ 67 ≡ code_at bits q
unfolding code_at
window_is bits q h =
    let l : length (drop q bits) ≡ 67 = let e = length-drop q bits in omega arith in
    let below : high_number (drop q bits) < 2 ^ 67 = below-high_number (drop q bits) 67 l in
    let parts : high_number bits ≡ high_number (take q bits) * 2 ^ 67 + high_number (drop q bits) =
    ap high_number (sym (take-append-drop q bits)) ∙ high_append (take q bits) (drop q bits) ∙ ap (λ (n : ℕ). high_number (take q bits) * 2 ^ n + high_number (drop q bits)) l in
    ap (λ (x : ℕ). x % 2 ^ 67) parts ∙ mod-mul-add (high_number (take q bits)) (2 ^ 67) (high_number (drop q bits)) below
    ∙ ap high_number (sym (take_all 67 (drop q bits) (omega arith)))

-- the same before some bits more, cut out of the last 128
pub code_before : (bits rest : List Bool) (window after q : ℕ) → after ≤ 55 → length rest ≡ after → q + 67 ≡ length bits → window ≡ high_number (bits ++ rest) % 2 ^ 128 →
    window / 2 ^ after % 2 ^ 67 ≡ code_at bits q
code_before bits rest window after q most l h e =
    let low : high_number rest < 2 ^ after = below-high_number rest after l in
    let j : 128 ≡ (61 - after) + 67 + after = omega (arith, most) in
    let n = high_number (bits ++ rest) in
    let cut : n ≡ high_number bits * 2 ^ after + high_number rest = high_append bits rest ∙ ap (λ (k : ℕ). high_number bits * 2 ^ k + high_number rest) l in
    ap (λ (x : ℕ). x / 2 ^ after % 2 ^ 67) (e ∙ ap (λ (k : ℕ). n % 2 ^ k) j)
    ∙ ap (λ (x : ℕ). x % 2 ^ 67) (field_of n ((61 - after) + 67) after)
    ∙ mod-mod-pow (n / 2 ^ after) (61 - after) 67
    ∙ ap (λ (x : ℕ). x % 2 ^ 67) (ap (λ (x : ℕ). x / 2 ^ after) cut ∙ div-mul-add (high_number bits) (2 ^ after) (high_number rest) low)
    ∙ window_is bits q h

pub kept : (n k m b : ℕ) → (n % m * k + b) % m ≡ (n * k + b) % m
kept n k m b = add-mod (n % m * k) b m ∙ ap (λ (x : ℕ). (x + b % m) % m) (mul-mod_first n k m) ∙ sym (add-mod (n * k) b m)

-- with some bits more
pub window_more : (bits : List Bool) (window count x : ℕ) → x < 2 ^ count → window ≡ high_number bits % 2 ^ 128 →
    (window * 2 ^ count + x) % 2 ^ 128 ≡ high_number (bits ++ bits_of count x) % 2 ^ 128
window_more bits window count x low e =
    ap (λ (w : ℕ). (w * 2 ^ count + x) % 2 ^ 128) e ∙ kept (high_number bits) (2 ^ count) (2 ^ 128) x
    ∙ ap (λ (n : ℕ). n % 2 ^ 128) (sym (high_append bits (bits_of count x)
    ∙ ap (λ (n : ℕ). high_number bits * 2 ^ n + high_number (bits_of count x)) (length-bits_of count x)
    ∙ ap (λ (n : ℕ). high_number bits * 2 ^ count + n) (number-bits_of count x low)))

-- the shift
pub pushed_is : (window bits count : ℕ) → count ≤ 128 → bits < 2 ^ count → bit_or (window * 2 ^ count % 2 ^ 128) bits ≡ (window * 2 ^ count + bits) % 2 ^ 128
pushed_is window bits count most few =
    let j : 128 ≡ (128 - count) + count = omega (arith, most) in
    let p = pow_pos count in
    let a : window * 2 ^ count % 2 ^ 128 ≡ window % 2 ^ (128 - count) * 2 ^ count =
    ap (λ (k : ℕ). window * 2 ^ count % 2 ^ k) j ∙ mod-pow-add (window * 2 ^ count) (128 - count) count
    ∙ ap (λ (x : ℕ). x % 2 ^ (128 - count) * 2 ^ count + window * 2 ^ count % 2 ^ count) (whole window (2 ^ count) p)
    ∙ ap (λ (x : ℕ). window % 2 ^ (128 - count) * 2 ^ count + x) (none window (2 ^ count)) ∙ zero_after (window % 2 ^ (128 - count) * 2 ^ count) in
    let b : (window * 2 ^ count + bits) % 2 ^ 128 ≡ window % 2 ^ (128 - count) * 2 ^ count + bits =
    ap (λ (k : ℕ). (window * 2 ^ count + bits) % 2 ^ k) j ∙ mod-pow-add (window * 2 ^ count + bits) (128 - count) count
    ∙ ap (λ (x : ℕ). x % 2 ^ (128 - count) * 2 ^ count + (window * 2 ^ count + bits) % 2 ^ count) (div-mul-add window (2 ^ count) bits few)
    ∙ ap (λ (x : ℕ). window % 2 ^ (128 - count) * 2 ^ count + x) (mod_low window count bits few) in
    ap (λ (x : ℕ). bit_or x bits) a ∙ or_shifted (window % 2 ^ (128 - count)) count bits few ∙ sym b
  where
    zero_after : (x : ℕ) → x + 0 ≡ x
    zero_after x = omega arith

    none : (x m : ℕ) → x * m % m ≡ 0
    none x m = ap (λ (y : ℕ). y % m) (mul_comm x m) ∙ mul-mod_right m x

    whole : (x m : ℕ) → 0 < m → x * m / m ≡ x
    whole x m h = let e : x * m ≡ x * m + 0 = omega arith in ap (λ (y : ℕ). y / m) e ∙ div-mul-add x m 0 h

-- The bit of a word that is counted fits a number of 64 bits.
use Rattle.std.proofs.Common.{ℕ, ◌≡◌, ◌+◌, ◌-◌, ◌*◌, ◌/◌, ◌%◌, ◌^◌, ◌<◌, ◌≤◌, arith}
use Rattle.std.proofs.Math.Nat.{mul-le-mul_left}
use Rattle.std.proofs.lemmas.Nat.{div-add-mod', mod_below}

-- a number is not raised by a division
divided : (n d : ℕ) → 1 ≤ d → n / d ≤ n
divided n d some =
    let a : n / d * 1 ≤ n / d * d = mul-le-mul_left (n / d) some in
    let b = div-add-mod' n d in
    omega (arith, a, b)

-- a metaframe has at most twice the words of its payload
spread : (n p l : ℕ) → 1 ≤ p → l ≤ 2 * p → n / p * l ≤ 2 * n
spread n p l some twice =
    let a : n / p * l ≤ n / p * (2 * p) = mul-le-mul_left (n / p) twice in
    let b : n / p * (2 * p) ≡ 2 * (n / p * p) = omega arith in
    let c = div-add-mod' n p in
    omega (arith, a, b, c)

bound : (a r p f slot n : ℕ) → slot < 2 ^ 56 → n ≤ slot → a ≤ 2 * n → r < p → p ≤ 8192 → f ≤ 4 → 67 * (a + (f + 2 + r)) < 2 ^ 64
bound a r p f slot n low divided spread rest few skips = omega (arith, low, divided, spread, rest, few, skips)

pub slot_fits : (slot lanes l f : ℕ) → slot < 2 ^ 56 → 1 ≤ lanes → 32 ≤ l → l ≤ 8192 → f ≤ 4 →
    67 * (slot / lanes / (l - (f + 2) - 1) * l + (f + 2 + slot / lanes % (l - (f + 2) - 1))) < 2 ^ 64
slot_fits slot lanes l f low some long short few =
    let some_payloads : 1 ≤ l - (f + 2) - 1 = omega (arith, long, few) in
    let twice : l ≤ 2 * (l - (f + 2) - 1) = omega (arith, long, few) in
    bound (slot / lanes / (l - (f + 2) - 1) * l) (slot / lanes % (l - (f + 2) - 1)) (l - (f + 2) - 1) f slot (slot / lanes) low (divided slot lanes some)
    (spread (slot / lanes) (l - (f + 2) - 1) l some_payloads twice) (mod_below (slot / lanes) (l - (f + 2) - 1) (omega (arith, some_payloads))) (omega (arith, short)) few

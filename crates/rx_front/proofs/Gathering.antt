-- The bits of bytes as a number.
use Rattle.std.proofs.Common.{ℕ, ◌≡◌, refl, sym, ap, ◌∙◌, subst, ◌+◌, ◌-◌, ◌*◌, ◌/◌, ◌^◌, ◌<◌, ◌≤◌, List, [], ◌∷◌, ◌++◌, length, get_or, take, drop, append-nil, arith}
use Rattle.std.proofs.Math.Pow.{pow_mono}
use Rattle.std.proofs.Math.Nat.{div-lt_iff_lt-mul}
use Rattle.std.proofs.lemmas.List.{take_more, take_all, take-append-le, take-take, get_or-drop, drop-drop}
use Rattle.std.proofs.lemmas.Nat.{pow-add, pow_pos}
use Rattle.circular_buffer.specs.Buffer.{Buffer, buffer}
use Rattle.lk_base.specs.Checksum.{bits_of, bits_of_bytes}
use Rattle.lk_base.proofs.Bits.{bits-cut, no_bits, bits-joined}
use Rattle.lane_model.proofs.Numbers.{length-bits_of}
use Rattle.event_model.proofs.Clocks.{bits-append}
use Rattle.rx_front.proofs.Rounds.{bits_taken}

-- this many bytes were taken from a ring, and these are their bits
pub record Gathered (before now : Buffer ℕ) (k bits : ℕ) : Type 0 where
  pub ring : now ≡ buffer (drop k before.items) before.capacity
  pub are : bits_of (8 * k) bits ≡ bits_of_bytes (take k before.items)
  pub below : bits < 2 ^ (8 * k)

pub none_gathered : (ring : Buffer ℕ) → Gathered ring ring 0 0
none_gathered ring = record { ring = refl; are = no_bits 0; below = omega arith }

pub one_gathered : (before now later : Buffer ℕ) (k bits byte : ℕ) → k < length before.items → byte < 256 → Gathered before now k bits → byte ≡ get_or now.items 0 0 → later ≡ buffer (drop 1 now.items) now.capacity →
    Gathered before later (k + 1) (bits * 256 + byte)
one_gathered before now later k bits byte lt low g is rest =
    let items : now.items ≡ drop k before.items = ap (λ (b : Buffer ℕ). b.items) g.ring in
    let here : byte ≡ get_or before.items k 0 = is ∙ ap (λ (xs : List ℕ). get_or xs 0 0) items ∙ get_or-drop k before.items 0 0 ∙ ap (λ (m : ℕ). get_or before.items m 0) (let e : k + 0 ≡ k = omega arith in e) in
    let e : 8 * (k + 1) ≡ 8 * k + 8 = omega arith in
    let p : 2 ^ (8 * (k + 1)) ≡ 2 ^ (8 * k) * 256 = ap (λ (n : ℕ). 2 ^ n) e ∙ pow-add 2 (8 * k) 8 in
    let b = g.below in
    record {
      ring = rest ∙ ap (λ (b : Buffer ℕ). buffer (drop 1 b.items) b.capacity) g.ring ∙ ap (λ (xs : List ℕ). buffer xs before.capacity) (drop-drop 1 k before.items);
      are = ap (λ (n : ℕ). bits_of n (bits * 256 + byte)) e ∙ bits-joined (8 * k) 8 bits byte low ∙ ap (λ b. b ++ bits_of 8 byte) g.are
          ∙ sym (ap bits_of_bytes (take_more before.items k 0 lt ∙ ap (λ (x : ℕ). take k before.items ++ x ∷ []) (sym here)) ∙ bits-append (take k before.items) (byte ∷ [])
          ∙ ap (λ b. bits_of_bytes (take k before.items) ++ b) (append-nil (bits_of 8 byte)));
      below = omega (arith, p, b, low);
    }

-- it stays small
pub gathered_low : (before now : Buffer ℕ) (k bits : ℕ) → k ≤ 6 → Gathered before now k bits → bits < 2 ^ 48
gathered_low before now k bits le g = (let b = g.below in let m : 2 ^ (8 * k) ≤ 2 ^ 48 = pow_mono {i = 8 * k} {j = 48} (omega (arith, le)) in omega (arith, b, m))

-- ---- eight bytes at once

-- the highest bits of eight bytes are those of the first of them
pub first_of_eight : (front behind items : List ℕ) (x n : ℕ) → 8 ≤ length front → n ≤ 7 → front ++ behind ≡ items → bits_of 64 x ≡ bits_of_bytes (take 8 front) →
    bits_of (8 * n) (x / 2 ^ (64 - 8 * n)) ≡ bits_of_bytes (take n items)
first_of_eight front behind items x n long few are h =
    let e : 8 * n + (64 - 8 * n) ≡ 64 = omega (arith, few) in
    let l = length-bits_of (8 * n) (x / 2 ^ (64 - 8 * n)) in
    let split = sym (bits-cut (8 * n) (64 - 8 * n) x) ∙ ap (λ (m : ℕ). bits_of m x) e ∙ h in
    let whole : take (8 * n) (bits_of (8 * n) (x / 2 ^ (64 - 8 * n))) ≡ bits_of (8 * n) (x / 2 ^ (64 - 8 * n)) = take_all (8 * n) (bits_of (8 * n) (x / 2 ^ (64 - 8 * n))) (omega (arith, l)) in
    sym whole ∙ sym (take-append-le (8 * n) (bits_of (8 * n) (x / 2 ^ (64 - 8 * n))) (bits_of (64 - 8 * n) x) (omega (arith, l))) ∙ ap (take (8 * n)) split
    ∙ bits_taken n (take 8 front) ∙ ap bits_of_bytes (take-take n 8 front (omega (arith, few)) ∙ sym (take-append-le n front behind (omega (arith, long, few))) ∙ ap (take n) are)

pub below_of_eight : (x n : ℕ) → x < 2 ^ 64 → n ≤ 7 → x / 2 ^ (64 - 8 * n) < 2 ^ (8 * n)
below_of_eight x n low few =
    let e : 8 * n + (64 - 8 * n) ≡ 64 = omega (arith, few) in
    let whole : x < 2 ^ (8 * n) * 2 ^ (64 - 8 * n) = subst (λ (m : ℕ). x < m) (sym (ap (λ (m : ℕ). 2 ^ m) e) ∙ pow-add 2 (8 * n) (64 - 8 * n)) low in
    (div-lt_iff_lt-mul {k = 2 ^ (64 - 8 * n)} {x = x} {y = 2 ^ (8 * n)} (pow_pos (64 - 8 * n))).1 whole

pub kept_behind : (xs : List ℕ) (n : ℕ) → n ≤ length xs → drop (length xs - (length xs - n)) xs ≡ drop n xs
kept_behind xs n le = (let e : length xs - (length xs - n) ≡ n = omega (arith, le) in ap (λ (m : ℕ). drop m xs) e)

-- The flow bits of a control word, and where the next one goes on.
use Rattle.std.proofs.Common.{◌≡◌, inl, inr, ℕ, suc, ◌+◌, ◌-◌, ◌*◌, ◌/◌, ◌%◌, ◌<◌, ◌≤◌, ◌==◌, Bool, true, false, if◌then◌else◌, List, length, refl, ap, ◌∙◌, arith}
use Rattle.std.specs.Int.{bit_at}
use Rattle.std.proofs.lemmas.Bool.{cases_lt}
use Rattle.std.proofs.lemmas.Nat.{mod_below}
use Rattle.std.proofs.lemmas.Nat.Bits.{bit_at_lowest, bit_at-suc}
use Rattle.std.proofs.Math.Nat.{suc-mod, mod_self, mod-eq_of_lt}
use Rattle.stream_model.specs.Calendar.{first_entry}

pub bit_low : (n b : ℕ) → b < 2 → bit_at (n * 2 + b) 0 ≡ b
bit_low n b h = bit_at_lowest (n * 2 + b) ∙ omega arith

pub bit_up : (n b i : ℕ) → b < 2 → bit_at (n * 2 + b) (suc i) ≡ bit_at n i
bit_up n b i h = let e : (n * 2 + b) / 2 ≡ n = omega arith in bit_at-suc (n * 2 + b) i ∙ ap (λ m. bit_at m i) e

pub more : (entries : List ℕ) (j : ℕ) → 1 ≤ length entries → first_entry entries j + 16 < length entries → first_entry entries (j + 1) ≡ first_entry entries j + 16
more entries j low h =
    let c : ℕ = (length entries + 15) / 16 in
    let r : ℕ = j % c in
    let within : suc r < c = omega arith in
    let e : j + 1 ≡ suc j = omega arith in
    ap (λ n. 16 * (n % c)) e ∙ ap (λ n. 16 * n) (suc-mod j c ∙ mod-eq_of_lt {n = suc r} {m = c} within) ∙ omega arith

pub again : (entries : List ℕ) (j : ℕ) → 1 ≤ length entries → length entries ≤ first_entry entries j + 16 → first_entry entries (j + 1) ≡ 0
again entries j low h =
    let c : ℕ = (length entries + 15) / 16 in
    let r : ℕ = j % c in
    let positive : 0 < c = omega arith in
    let below : r < c = mod_below j c positive in
    let last : suc r ≡ c = omega arith in
    let e : j + 1 ≡ suc j = omega arith in
    ap (λ n. 16 * (n % c)) e ∙ ap (λ n. 16 * n) (suc-mod j c ∙ ap (λ n. n % c) last ∙ mod_self c)

pub first_small : (entries : List ℕ) (j : ℕ) → 1 ≤ length entries → first_entry entries j < length entries + 15
first_small entries j low =
    let c : ℕ = (length entries + 15) / 16 in
    let positive : 0 < c = omega arith in
    let below : j % c < c = mod_below j c positive in
    omega arith

pub one_bit : (b : Bool) (n : ℕ) → n ≡ (if b then 1 else 0) → n < 2
one_bit true n e = omega arith
one_bit false n e = omega arith

pub is_bit : (b : Bool) (n : ℕ) → n ≡ (if b then 1 else 0) → (n == 1) ≡ b
is_bit true n e = rw e refl
is_bit false n e = rw e refl

-- one more bit after the bits that are there
pub bits_more : (flow b i : ℕ) (want : ℕ → Bool) → b < 2 → (b == 1) ≡ want i → ((k : ℕ) → k < i → (bit_at flow (i - 1 - k) == 1) ≡ want k) → (k : ℕ) → k < i + 1 → (bit_at (flow * 2 + b) (i + 1 - 1 - k) == 1) ≡ want k
bits_more flow b i want small here before k h = elim (cases_lt k i) [
  | inl l ↦ (let e : i + 1 - 1 - k ≡ suc (i - 1 - k) = omega arith in ap (λ n. bit_at (flow * 2 + b) n == 1) e ∙ ap (λ n. n == 1) (bit_up flow b (i - 1 - k) small) ∙ before k l)
  | inr g ↦ (let e : i + 1 - 1 - k ≡ 0 = omega arith in let s : i ≡ k = omega arith in ap (λ n. bit_at (flow * 2 + b) n == 1) e ∙ ap (λ n. n == 1) (bit_low flow b small) ∙ here ∙ ap want s)
]

-- The bits of numbers that are cut or put together.
use Rattle.std.proofs.Common.{ℕ, ◌≡◌, sym, ap, ◌∙◌, ◌+◌, ◌*◌, ◌/◌, ◌%◌, ◌^◌, ◌<◌}
use Rattle.std.specs.Int.{bit_at}
use Rattle.std.proofs.lemmas.Nat.{shr-shr, shr_high, mod_low, mul-add-lt, pow-add}
use Rattle.lk_base.proofs.Bits.{bit_at-mod}

pub bit_at-shr : (x n i : ℕ) → bit_at (x / 2 ^ n) i ≡ bit_at x (n + i)
bit_at-shr x n i = ap (λ y. y % 2) (shr-shr x n i)

pub bit_at-low : (a b n i : ℕ) → b < 2 ^ n → i < n → bit_at (a * 2 ^ n + b) i ≡ bit_at b i
bit_at-low a b n i h k = sym (bit_at-mod (a * 2 ^ n + b) n i k) ∙ ap (λ y. bit_at y i) (mod_low a n b h)

pub bit_at-high : (a b n i : ℕ) → b < 2 ^ n → bit_at (a * 2 ^ n + b) (n + i) ≡ bit_at a i
bit_at-high a b n i h = sym (bit_at-shr (a * 2 ^ n + b) n i) ∙ ap (λ y. bit_at y i) (shr_high a n b h)

pub joined_below : (a b m n total : ℕ) → a < 2 ^ m → b < 2 ^ n → total ≡ n + m → a * 2 ^ n + b < 2 ^ total
joined_below a b m n total h k e = rw (e, pow-add 2 n m) (mul-add-lt a (2 ^ n) b (2 ^ m) h k)

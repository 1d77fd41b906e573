-- What zeros do to a register.
use Rattle.std.proofs.Common.{◌≡◌, ℕ, ◌+◌, ◌*◌, ◌^◌, ◌++◌, sym, ap, ◌∙◌, arith, bit_xor}
use Rattle.std.proofs.Math.Nat.{zero-div}
use Rattle.lk_base.specs.Checksum.{bits_of, register_after}
use Rattle.lk_base.proofs.Bits.{bits-cut}
use Rattle.lk_crc.proofs.Registers.{register_after-append}
use Rattle.lk_crc.proofs.Linear.{after_sum}
use Rattle.crc32_runs.specs.Registers.{later}

-- a register after this many zeros
abbrev pub zeros : ℕ → ℕ → ℕ
zeros n r = register_after 32 0x1EDC6F41 r (bits_of n 0)

zeros_cut : (n m : ℕ) → bits_of (n + m) 0 ≡ bits_of n 0 ++ bits_of m 0
zeros_cut n m = bits-cut n m 0 ∙ ap (λ (q : ℕ). bits_of n q ++ bits_of m 0) (zero-div (2 ^ m))

pub zeros_more : (n m r : ℕ) → zeros (n + m) r ≡ zeros m (zeros n r)
zeros_more n m r = ap (register_after 32 0x1EDC6F41 r) (zeros_cut n m) ∙ register_after-append 32 0x1EDC6F41 r (bits_of n 0) (bits_of m 0)

-- in either order
pub zeros_turned : (n m r : ℕ) → zeros n (zeros m r) ≡ zeros m (zeros n r)
zeros_turned n m r =
    let e : m + n ≡ n + m = omega arith in
    sym (zeros_more m n r) ∙ ap (λ (k : ℕ). zeros k r) e ∙ zeros_more n m r

pub later_later : (n m r : ℕ) → later (n + m) r ≡ later m (later n r)
later_later n m r =
    let e : 64 * (n + m) ≡ 64 * n + 64 * m = omega arith in
    ap (λ (k : ℕ). zeros k r) e ∙ zeros_more (64 * n) (64 * m) r

pub zeros_sum : (n r s : ℕ) → zeros n (bit_xor r s) ≡ bit_xor (zeros n r) (zeros n s)
zeros_sum n r s = after_sum 32 0x1EDC6F41 n r s 0 0

pub later_sum : (n r s : ℕ) → later n (bit_xor r s) ≡ bit_xor (later n r) (later n s)
later_sum n r s = zeros_sum (64 * n) r s

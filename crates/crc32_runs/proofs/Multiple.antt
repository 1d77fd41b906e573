-- Powers of x that add up to a multiple of the polynomial: x^209, x^144, x^54, x^39, x^14 and 1; and x^79, x^75, x^71, x^58, x^18, x^12,
-- x and 1. Squared six times, so do those of x^64. So the registers that a word leads to, after so many words of zeros, add
-- up to zeros.
use Rattle.std.proofs.Common.{◌≡◌, ℕ, zero, suc, ◌+◌, ◌*◌, ◌==◌, Bool, true, false, refl, sym, ap, ◌∙◌, bit_xor}
use Rattle.std.specs.Int.{bit_at}
use Rattle.std.specs.Int.Bits.{xor_zero_l}
use Rattle.lk_base.specs.Checksum.{bits_of, register_after, register_step}
use Rattle.crc32_runs.proofs.Later.{later_later, later_sum, zeros, zeros_sum, zeros_turned}
use Rattle.lk_crc.proofs.Pieces.{apart, zeros_leave}
use Rattle.crc32_runs.proofs.Sums.{xor_four, xor_over}
use Rattle.crc32_runs.specs.Registers.{later, taken}

-- words of zeros later, and the register added
abbrev turn : ℕ → (ℕ → ℕ) → ℕ → ℕ
turn k f r = bit_xor (later k (f r)) r

abbrev own : ℕ → ℕ
own r = r

-- the sums of what a register comes to, in steps
abbrev far : ℕ → ℕ
far = turn 14 (turn 25 (turn 15 (turn 90 (turn 65 own))))

abbrev near : ℕ → ℕ
near = turn 1 (turn 11 (turn 6 (turn 40 (turn 13 (turn 4 (turn 4 own))))))

abbrev Adds : (ℕ → ℕ) → Type 0
Adds f = (r s : ℕ) → f (bit_xor r s) ≡ bit_xor (f r) (f s)

abbrev Waits : (ℕ → ℕ) → Type 0
Waits f = (n r : ℕ) → f (zeros n r) ≡ zeros n (f r)

turn_adds : (k : ℕ) (f : ℕ → ℕ) → Adds f → Adds (turn k f)
turn_adds k f adds r s =
    ap (λ (q : ℕ). bit_xor (later k q) (bit_xor r s)) (adds r s) ∙ ap (λ (q : ℕ). bit_xor q (bit_xor r s)) (later_sum k (f r) (f s)) ∙ xor_four (later k (f r)) (later k (f s)) r s

turn_waits : (k : ℕ) (f : ℕ → ℕ) → Waits f → Waits (turn k f)
turn_waits k f waits n r =
    ap (λ (q : ℕ). bit_xor (later k q) (zeros n r)) (waits n r) ∙ ap (λ (q : ℕ). bit_xor q (zeros n r)) (zeros_turned (64 * k) n (f r)) ∙ sym (zeros_sum n (later k (f r)) r)

own_adds : Adds own
own_adds r s = refl

own_waits : Waits own
own_waits n r = refl

far_adds : Adds far
far_adds = turn_adds 14 _ (turn_adds 25 _ (turn_adds 15 _ (turn_adds 90 _ (turn_adds 65 own own_adds))))

far_waits : Waits far
far_waits = turn_waits 14 _ (turn_waits 25 _ (turn_waits 15 _ (turn_waits 90 _ (turn_waits 65 own own_waits))))

near_adds : Adds near
near_adds = turn_adds 1 _ (turn_adds 11 _ (turn_adds 6 _ (turn_adds 40 _ (turn_adds 13 _ (turn_adds 4 _ (turn_adds 4 own own_adds))))))

near_waits : Waits near
near_waits = turn_waits 1 _ (turn_waits 11 _ (turn_waits 6 _ (turn_waits 40 _ (turn_waits 13 _ (turn_waits 4 _ (turn_waits 4 own own_waits))))))

-- of the register after one bit
abbrev IsNone : (ℕ → ℕ) → Type 0
IsNone f = (b : Bool) → f (register_step 32 0x1EDC6F41 0 b) ≡ 0

far_bit : IsNone far
unfolding register_after bits_of
far_bit true = refl
far_bit false = refl

near_bit : IsNone near
unfolding register_after bits_of
near_bit true = refl
near_bit false = refl

-- of that after any bits
after_bits : (f : ℕ → ℕ) → Adds f → Waits f → IsNone f → (n x : ℕ) → f (register_after 32 0x1EDC6F41 0 (bits_of n x)) ≡ 0
unfolding register_after bits_of
after_bits f adds waits none zero x = none false
after_bits f adds waits none (suc n) x =
    let first = register_step 32 0x1EDC6F41 0 (bit_at x n == 1) in
    ap f (apart 32 0x1EDC6F41 first n x) ∙ adds (register_after 32 0x1EDC6F41 0 (bits_of n x)) (zeros n first)
    ∙ ap (λ (q : ℕ). bit_xor q (f (zeros n first))) (after_bits f adds waits none n x) ∙ xor_zero_l (f (zeros n first))
    ∙ waits n first ∙ ap (zeros n) (none (bit_at x n == 1)) ∙ zeros_leave 32 0x1EDC6F41 n

-- one step, later
unturned : (n k : ℕ) (f : ℕ → ℕ) (r : ℕ) → later n (turn k f r) ≡ bit_xor (later (k + n) (f r)) (later n r)
unturned n k f r = later_sum n (later k (f r)) r ∙ ap (λ (q : ℕ). bit_xor q (later n r)) (sym (later_later k n (f r)))

-- one step more of a sum
step : (n k : ℕ) (f : ℕ → ℕ) (r sum : ℕ) → later n (turn k f r) ≡ sum → later (k + n) (f r) ≡ bit_xor sum (later n r)
step n k f r sum e = xor_over (later (k + n) (f r)) (later n r) sum (sym (unturned n k f r) ∙ e)

-- the farthest is the sum of the others
pub farthest : (word : ℕ) → later 209 (taken word) ≡ bit_xor (bit_xor (bit_xor (bit_xor (taken word) (later 14 (taken word))) (later 39 (taken word))) (later 54 (taken word))) (later 144 (taken word))
farthest word =
    let r = taken word in
    let last = xor_over (later 14 (turn 25 (turn 15 (turn 90 (turn 65 own))) r)) r 0 (after_bits far far_adds far_waits far_bit 64 word) ∙ xor_zero_l r in
    step 144 65 own r _ (step 54 90 (turn 65 own) r _ (step 39 15 (turn 90 (turn 65 own)) r _ (step 14 25 (turn 15 (turn 90 (turn 65 own))) r r last)))

pub nearest : (word : ℕ) →
    later 79 (taken word) ≡ bit_xor (bit_xor (bit_xor (bit_xor (bit_xor (bit_xor (taken word) (later 1 (taken word))) (later 12 (taken word))) (later 18 (taken word))) (later 58 (taken word))) (later 71 (taken word))) (later 75 (taken word))
nearest word =
    let r = taken word in
    let last = xor_over (later 1 (turn 11 (turn 6 (turn 40 (turn 13 (turn 4 (turn 4 own))))) r)) r 0 (after_bits near near_adds near_waits near_bit 64 word) ∙ xor_zero_l r in
    step 75 4 own r _ (step 71 4 (turn 4 own) r _ (step 58 13 (turn 4 (turn 4 own)) r _ (step 18 40 (turn 13 (turn 4 (turn 4 own))) r _ (step 12 6 (turn 40 (turn 13 (turn 4 (turn 4 own)))) r _
    (step 1 11 (turn 6 (turn 40 (turn 13 (turn 4 (turn 4 own))))) r r last)))))

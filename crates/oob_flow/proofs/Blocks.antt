-- The sizes of blocks, and how long frames are.
use Rattle.std.proofs.Common.{◌≡◌, ℕ, zero, suc, ◌+◌, ◌-◌, ◌*◌, ◌/◌, ◌%◌, ◌<◌, ◌≤◌, min, Bool, false, List, [], ◌∷◌, ◌++◌, length, take, drop, replicate, ◌==◌, nat_lt, get_or, append_assoc, refl, sym, ap, ap₂, ◌∙◌, inl, inr, arith}
use Rattle.std.specs.Int.{bit_at}
use Rattle.std.proofs.lemmas.Nat.Bits.{bit_at_lowest}
use Rattle.std.proofs.lemmas.Bool.Decides.{nat_tests}
use Rattle.std.specs.List.{flat_map}
use Rattle.std.proofs.lemmas.Bool.{cases_lt}
use Rattle.std.proofs.lemmas.List.{length-append, length-take-le, length-drop}
use Rattle.lk_base.specs.Checksum.{bits_of, digit}
use Rattle.oob_flow.specs.Frames.{block_sizes, sizes_left, block_bits, block_checksum, blocks_from, frame_bits, frame_length, bit_samples, samples_of_bits, frame_samples}

one_block : (n : ℕ) → 1 ≤ n → n ≤ 64 → block_sizes n ≡ n ∷ []
unfolding block_sizes
one_block n h k =
    let q : (n - 1) / 64 ≡ 0 = omega arith in
    let r : (n - 1) % 64 + 1 ≡ n = omega arith in
    rw (q, r) refl

more_blocks : (m : ℕ) → block_sizes (suc m + 64) ≡ 64 ∷ block_sizes (suc m)
unfolding block_sizes
more_blocks m =
    let q : (suc m + 64 - 1) / 64 ≡ suc ((suc m - 1) / 64) = omega arith in
    let r : (suc m + 64 - 1) % 64 ≡ (suc m - 1) % 64 = omega arith in
    rw (q, r) refl

pub sizes_some : (n : ℕ) → 1 ≤ n → sizes_left n ≡ block_sizes n
sizes_some zero h = absurd (omega arith)
sizes_some (suc n) h = refl

-- the first block of the entries that are left, and then those after it
pub sizes_step : (n : ℕ) → 1 ≤ n → sizes_left n ≡ min 64 n ∷ sizes_left (n - min 64 n)
sizes_step n h = elim (cases_lt 64 n) [
  | inl big ↦
      (let m : ℕ = n - 65 in
      let e : n ≡ suc m + 64 = omega arith in
      let a : min 64 n ≡ 64 = omega arith in
      let b : n - min 64 n ≡ suc m = omega arith in
      sizes_some n h ∙ ap block_sizes e ∙ more_blocks m ∙ sym (ap (λ (x : ℕ). x ∷ sizes_left (n - min 64 n)) a ∙ ap (λ (x : ℕ). 64 ∷ sizes_left x) b))
  | inr small ↦
      (let a : min 64 n ≡ n = omega arith in
      let b : n - min 64 n ≡ 0 = omega arith in
      sizes_some n h ∙ one_block n h (omega arith) ∙ sym (ap (λ (x : ℕ). x ∷ sizes_left (n - min 64 n)) a ∙ ap (λ (x : ℕ). n ∷ sizes_left x) b))
]

-- the entries of blocks
abbrev pub total : List ℕ → ℕ
total [] = 0
total (size ∷ sizes) = size + total sizes

-- sizes are never 0
abbrev pub ArePositive : List ℕ → Type 0
ArePositive [] = Unit {0}
ArePositive (size ∷ sizes) = (1 ≤ size) × ArePositive sizes

repeated : (q r : ℕ) → total (replicate q 64 ++ r ∷ []) ≡ 64 * q + r
repeated zero r = omega arith
repeated (suc q) r = let h = repeated q r in omega arith

pub total_sizes : (n : ℕ) → 1 ≤ n → total (block_sizes n) ≡ n
unfolding block_sizes
total_sizes n h = repeated ((n - 1) / 64) ((n - 1) % 64 + 1) ∙ omega arith

pub block_length : (states : List Bool) → length (block_bits states) ≡ length states + 4
unfolding block_bits bits_of
block_length states = length-append states (bits_of 4 (block_checksum states))

-- the bits of blocks
pub blocks_length : (sizes : List ℕ) (states : List Bool) → total sizes ≤ length states → length (blocks_from sizes states) ≡ total sizes + 4 * length sizes
blocks_length [] states h = omega arith
blocks_length (size ∷ sizes) states h =
    let first : length (take size states) ≡ size = length-take-le size states (omega arith) in
    let here : length (block_bits (take size states)) ≡ length (take size states) + 4 = block_length (take size states) in
    let left : length (drop size states) ≡ length states - size = length-drop size states in
    let rest : length (blocks_from sizes (drop size states)) ≡ total sizes + 4 * length sizes = blocks_length sizes (drop size states) (omega arith) in
    let both = length-append (block_bits (take size states)) (blocks_from sizes (drop size states)) in
    omega arith

pub frame_bits_length : (states : List Bool) → 1 ≤ length states → 2 * length (frame_bits states) ≡ frame_length (length states)
unfolding frame_bits frame_length
frame_bits_length states h =
    let t : total (block_sizes (length states)) ≡ length states = total_sizes (length states) h in
    let l : length (blocks_from (block_sizes (length states)) states) ≡ total (block_sizes (length states)) + 4 * length (block_sizes (length states)) = blocks_length (block_sizes (length states)) states (omega arith) in
    omega arith

others_length : (bits : List Bool) → length (flat_map (bit_samples false) bits) ≡ 2 * length bits
others_length [] = refl
others_length (b ∷ bits) = let h = others_length bits in omega arith

pub samples_length : (bits : List Bool) → length (samples_of_bits bits) ≡ 2 * length bits
samples_length [] = refl
samples_length (b ∷ bits) = let h = others_length bits in omega arith

pub frame_samples_length : (states : List Bool) → 1 ≤ length states → length (frame_samples states) ≡ frame_length (length states)
unfolding frame_samples
frame_samples_length states h = samples_length (frame_bits states) ∙ frame_bits_length states h

-- four bits put after others, the highest first
pub four_pushed : (x : ℕ) (xs a b c d : List Bool) → a ≡ xs ++ (x / 8 % 2 == 1) ∷ [] → b ≡ a ++ (x / 4 % 2 == 1) ∷ [] → c ≡ b ++ (x / 2 % 2 == 1) ∷ [] → d ≡ c ++ (x % 2 == 1) ∷ [] → d ≡ xs ++ bits_of 4 x
unfolding bits_of
four_pushed x xs a b c d e f g h =
    let low : (x % 2 == 1) ≡ (bit_at x 0 == 1) = ap (λ (n : ℕ). n == 1) (sym (bit_at_lowest x)) in
    h ∙ ap (λ (v : List Bool). v ++ (x % 2 == 1) ∷ []) (g ∙ ap (λ (v : List Bool). v ++ (x / 2 % 2 == 1) ∷ []) (f ∙ ap (λ (v : List Bool). v ++ (x / 4 % 2 == 1) ∷ []) e))
    ∙ append_assoc (xs ++ (x / 8 % 2 == 1) ∷ [] ++ (x / 4 % 2 == 1) ∷ []) ((x / 2 % 2 == 1) ∷ []) ((x % 2 == 1) ∷ [])
    ∙ append_assoc (xs ++ (x / 8 % 2 == 1) ∷ []) ((x / 4 % 2 == 1) ∷ []) ((x / 2 % 2 == 1) ∷ (x % 2 == 1) ∷ [])
    ∙ append_assoc xs ((x / 8 % 2 == 1) ∷ []) ((x / 4 % 2 == 1) ∷ (x / 2 % 2 == 1) ∷ (x % 2 == 1) ∷ [])
    ∙ ap (λ (v : Bool). xs ++ (x / 8 % 2 == 1) ∷ (x / 4 % 2 == 1) ∷ (x / 2 % 2 == 1) ∷ v ∷ []) low

-- ---- the sample at a place

pub others_at : (bits : List Bool) (place : ℕ) → place < 2 * length bits → get_or (flat_map (bit_samples false) bits) place 0 ≡ place % 2 + 2 * digit (get_or bits (place / 2) false) + 4 * 0
others_at [] place h = absurd (omega arith)
others_at (b ∷ bits) zero h = refl
others_at (b ∷ bits) (suc zero) h = refl
others_at (b ∷ bits) (suc (suc place)) h =
    let rest : get_or (flat_map (bit_samples false) bits) place 0 ≡ place % 2 + 2 * digit (get_or bits (place / 2) false) + 4 * 0 = others_at bits place (omega arith) in
    let clock : suc (suc place) % 2 ≡ place % 2 = omega arith in
    let half : suc (suc place) / 2 ≡ suc (place / 2) = omega arith in
    rest ∙ sym (ap₂ (λ (m n : ℕ). m + 2 * digit (get_or (b ∷ bits) n false) + 4 * 0) clock half)

pub sample_in : (bits : List Bool) (place : ℕ) → place < 2 * length bits → get_or (samples_of_bits bits) place 0 ≡ place % 2 + 2 * digit (get_or bits (place / 2) false) + 4 * digit (nat_lt place 2)
sample_in [] place h = absurd (omega arith)
sample_in (b ∷ bits) zero h = refl
sample_in (b ∷ bits) (suc zero) h = refl
sample_in (b ∷ bits) (suc (suc place)) h =
    let rest : get_or (flat_map (bit_samples false) bits) place 0 ≡ place % 2 + 2 * digit (get_or bits (place / 2) false) + 4 * 0 = others_at bits place (omega arith) in
    let clock : suc (suc place) % 2 ≡ place % 2 = omega arith in
    let half : suc (suc place) / 2 ≡ suc (place / 2) = omega arith in
    let late : nat_lt (suc (suc place)) 2 ≡ false = grind (arith, nat_tests) in
    rest ∙ sym (ap₂ (λ (m n : ℕ). m + 2 * digit (get_or (b ∷ bits) n false) + 4 * digit (nat_lt (suc (suc place)) 2)) clock half ∙ ap (λ (t : Bool). place % 2 + 2 * digit (get_or bits (place / 2) false) + 4 * digit t) late)

-- how many blocks there are
counted_blocks : (q r : ℕ) → length (replicate q 64 ++ r ∷ []) ≡ q + 1
counted_blocks zero r = refl
counted_blocks (suc q) r = let h = counted_blocks q r in omega arith

pub long_frame : (n : ℕ) → 1 ≤ n → 2 * (n + 4 * ((n + 63) / 64)) ≡ frame_length n
unfolding frame_length block_sizes
long_frame n h = let c = counted_blocks ((n - 1) / 64) ((n - 1) % 64 + 1) in omega arith

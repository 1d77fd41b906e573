-- What is taken of the samples of frames.
use Rattle.std.proofs.Common.{◌≡◌, ℕ, zero, suc, ◌+◌, ◌*◌, ◌<◌, ◌≤◌, Bool, true, false, List, [], ◌∷◌, ◌++◌, length, refl, sym, ap, ap₂, ◌∙◌, append_assoc, arith}
use Rattle.std.specs.List.{flat_map, range_with_len}
use Rattle.std.proofs.Math.Nat.{mul-suc}
use Rattle.stream_model.specs.declared.rows.FlowRow.{FlowRow}
use Rattle.oob_flow.specs.Frames.{bit_samples, samples_of_bits}
use Rattle.oob_flow.specs.Taken.{Taken, taken_from, until_sync}
use Rattle.oob_flow.specs.Reading.{states_of, number_at, rows_of_frame, rows_of_bits}
use Rattle.oob_flow.proofs.Steps.{sync_bit, other_bit, no_bits}

-- the bits that are taken of samples from number n on
abbrev pub bit_taken : ℕ → Bool → Bool → Taken
bit_taken n state sync = record { number = n + 1; state = state; sync = sync }

abbrev pub others_taken : ℕ → List Bool → List Taken
others_taken n [] = []
others_taken n (b ∷ bits) = bit_taken n b false ∷ others_taken (n + 2) bits

abbrev pub frame_taken : ℕ → List Bool → List Taken
frame_taken n [] = []
frame_taken n (b ∷ bits) = bit_taken n b true ∷ others_taken (n + 2) bits

two_on : (n : ℕ) → n + 1 + 1 ≡ n + 2
two_on n = omega arith

pair_taken : (n : ℕ) (before sync state : Bool) (rest : List ℕ) → taken_from n before (bit_samples sync state ++ rest) ≡ bit_taken n state sync ∷ taken_from (n + 2) true rest
pair_taken n before true true rest = ap (λ (m : ℕ). bit_taken n true true ∷ taken_from m true rest) (two_on n)
pair_taken n before true false rest = ap (λ (m : ℕ). bit_taken n false true ∷ taken_from m true rest) (two_on n)
pair_taken n before false true rest = ap (λ (m : ℕ). bit_taken n true false ∷ taken_from m true rest) (two_on n)
pair_taken n before false false rest = ap (λ (m : ℕ). bit_taken n false false ∷ taken_from m true rest) (two_on n)

others_are : (n : ℕ) (bits : List Bool) (rest : List ℕ) → taken_from n true (flat_map (bit_samples false) bits ++ rest) ≡ others_taken n bits ++ taken_from (n + 2 * length bits) true rest
others_are n [] rest = let e : n ≡ n + 2 * 0 = omega arith in ap (λ (m : ℕ). taken_from m true rest) e
others_are n (b ∷ bits) rest =
    let e : n + 2 + 2 * length bits ≡ n + 2 * suc (length bits) = omega arith in
    ap (taken_from n true) (append_assoc (bit_samples false b) (flat_map (bit_samples false) bits) rest)
    ∙ pair_taken n true false b (flat_map (bit_samples false) bits ++ rest)
    ∙ ap (λ (xs : List Taken). bit_taken n b false ∷ xs) (others_are (n + 2) bits rest ∙ ap (λ (m : ℕ). others_taken (n + 2) bits ++ taken_from m true rest) e)

pub frame_is_taken : (n : ℕ) (before : Bool) (bits : List Bool) (rest : List ℕ) → 1 ≤ length bits → taken_from n before (samples_of_bits bits ++ rest) ≡ frame_taken n bits ++ taken_from (n + 2 * length bits) true rest
frame_is_taken n before [] rest h = absurd (omega arith)
frame_is_taken n before (b ∷ bits) rest h =
    let e : n + 2 + 2 * length bits ≡ n + 2 * suc (length bits) = omega arith in
    ap (taken_from n before) (append_assoc (bit_samples true b) (flat_map (bit_samples false) bits) rest)
    ∙ pair_taken n before true b (flat_map (bit_samples false) bits ++ rest)
    ∙ ap (λ (xs : List Taken). bit_taken n b true ∷ xs) (others_are (n + 2) bits rest ∙ ap (λ (m : ℕ). others_taken (n + 2) bits ++ taken_from m true rest) e)

one_more : (f k : ℕ) → f * k + f ≡ f * (k + 1)
one_more f k = let e : k + 1 ≡ suc k = omega arith in sym (ap (λ (n : ℕ). f * n) e ∙ mul-suc f k)

until_others : (n : ℕ) (bits : List Bool) (more : List Taken) → until_sync more ≡ [] → until_sync (others_taken n bits ++ more) ≡ others_taken n bits
until_others n [] more h = h
until_others n (b ∷ bits) more h = ap (λ (xs : List Taken). bit_taken n b false ∷ xs) (until_others (n + 2) bits more h)

others_rows : (entries n : ℕ) (bits : List Bool) (more : List Taken) → rows_of_bits entries (others_taken n bits ++ more) ≡ rows_of_bits entries more
others_rows entries n [] more = refl
others_rows entries n (b ∷ bits) more = other_bit entries (bit_taken n b false) (others_taken (n + 2) bits ++ more) refl ∙ others_rows entries (n + 2) bits more

at_first : (n : ℕ) (bits : List Bool) (more : List Taken) → 1 ≤ length bits → until_sync (frame_taken n bits ++ more) ≡ []
at_first n [] more h = absurd (omega arith)
at_first n (b ∷ bits) more h = refl

-- a frame, and then bits that begin with another
one_frame : (entries n : ℕ) (bits : List Bool) (more : List Taken) → 1 ≤ length bits → until_sync more ≡ [] → rows_of_bits entries (frame_taken n bits ++ more) ≡ rows_of_frame entries (frame_taken n bits) ++ rows_of_bits entries more
one_frame entries n [] more h e = absurd (omega arith)
one_frame entries n (b ∷ bits) more h e =
    sync_bit entries (bit_taken n b true) (others_taken (n + 2) bits ++ more) refl
    ∙ ap₂ (λ (xs : List Taken) (rows : List FlowRow). rows_of_frame entries (bit_taken n b true ∷ xs) ++ rows) (until_others (n + 2) bits more e) (others_rows entries (n + 2) bits more)

-- ---- the bits of a frame that were taken

others_states : (n : ℕ) (bits : List Bool) → states_of (others_taken n bits) ≡ bits
others_states n [] = refl
others_states n (b ∷ bits) = ap (λ (xs : List Bool). b ∷ xs) (others_states (n + 2) bits)

pub frame_states : (n : ℕ) (bits : List Bool) → states_of (frame_taken n bits) ≡ bits
frame_states n [] = refl
frame_states n (b ∷ bits) = ap (λ (xs : List Bool). b ∷ xs) (others_states (n + 2) bits)

others_numbers : (n : ℕ) (bits : List Bool) (i : ℕ) → i < length bits → number_at (others_taken n bits) i ≡ n + 2 * i + 1
others_numbers n [] i h = absurd (omega arith)
others_numbers n (b ∷ bits) zero h = omega arith
others_numbers n (b ∷ bits) (suc i) h = others_numbers (n + 2) bits i (omega arith) ∙ omega arith

pub frame_numbers : (n : ℕ) (bits : List Bool) (i : ℕ) → i < length bits → number_at (frame_taken n bits) i ≡ n + 2 * i + 1
frame_numbers n [] i h = absurd (omega arith)
frame_numbers n (b ∷ bits) zero h = omega arith
frame_numbers n (b ∷ bits) (suc i) h = others_numbers (n + 2) bits i (omega arith) ∙ omega arith

-- ---- frames that follow one another

-- the bits of frames of n bits each
module _ (frame : ℕ → List Bool) (size : ℕ) (some : 1 ≤ size) (sized : (k : ℕ) → length (frame k) ≡ size) where
  pub frames_taken : (m k : ℕ) (before : Bool) → taken_from (2 * size * k) before (flat_map (λ (j : ℕ). samples_of_bits (frame j)) (range_with_len k m)) ≡ flat_map (λ (j : ℕ). frame_taken (2 * size * j) (frame j)) (range_with_len k m)
  frames_taken zero k before = refl
  frames_taken (suc m) k before =
      let long : 1 ≤ length (frame k) = omega (arith, sized k) in
      let next : 2 * size * k + 2 * length (frame k) ≡ 2 * size * (k + 1) = ap (λ (n : ℕ). 2 * size * k + 2 * n) (sized k) ∙ one_more (2 * size) k in
      frame_is_taken (2 * size * k) before (frame k) (flat_map (λ (j : ℕ). samples_of_bits (frame j)) (range_with_len (k + 1) m)) long
      ∙ ap (λ (n : ℕ). frame_taken (2 * size * k) (frame k) ++ taken_from n true (flat_map (λ (j : ℕ). samples_of_bits (frame j)) (range_with_len (k + 1) m))) next
      ∙ ap (λ (xs : List Taken). frame_taken (2 * size * k) (frame k) ++ xs) (frames_taken m (k + 1) true)

  begins : (m k : ℕ) → until_sync (flat_map (λ (j : ℕ). frame_taken (2 * size * j) (frame j)) (range_with_len k m)) ≡ []
  begins zero k = refl
  begins (suc m) k = at_first (2 * size * k) (frame k) (flat_map (λ (j : ℕ). frame_taken (2 * size * j) (frame j)) (range_with_len (k + 1) m)) (omega (arith, sized k))

  pub frames_rows : (entries m k : ℕ) → rows_of_bits entries (flat_map (λ (j : ℕ). frame_taken (2 * size * j) (frame j)) (range_with_len k m)) ≡ flat_map (λ (j : ℕ). rows_of_frame entries (frame_taken (2 * size * j) (frame j))) (range_with_len k m)
  frames_rows entries zero k = no_bits entries
  frames_rows entries (suc m) k =
      one_frame entries (2 * size * k) (frame k) (flat_map (λ (j : ℕ). frame_taken (2 * size * j) (frame j)) (range_with_len (k + 1) m)) (omega (arith, sized k)) (begins m (k + 1))
      ∙ ap (λ (rows : List FlowRow). rows_of_frame entries (frame_taken (2 * size * k) (frame k)) ++ rows) (frames_rows entries m (k + 1))

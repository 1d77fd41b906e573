-- Reading what was written.
use Rattle.std.proofs.Common.{◌≡◌, ℕ, zero, suc, ◌+◌, ◌-◌, ◌*◌, ◌<◌, ◌≤◌, min, Bool, true, false, List, ◌∷◌, ◌++◌, length, All, refl, sym, ap, ◌∙◌, subst, arith}
use Rattle.std.specs.List.{flat_map, range_with_len}
use Rattle.std.proofs.Math.Nat.{mul-suc}
use Rattle.std.proofs.lemmas.List.{length-map}
use Rattle.std.proofs.lemmas.List.Concat.{flat_map-append}
use Rattle.std.proofs.lemmas.List.{get_or_default}
use Rattle.std.proofs.lemmas.List.Elements.{All-nil, All-append, All-weaker}
use Rattle.lk_base.proofs.Lists.{split_range}
use Rattle.stream_model.specs.Calendar.{is_on, is_locally_on, told_from}
use Rattle.stream_model.specs.declared.rows.FlowRow.{FlowRow}
use Rattle.stream_model.specs.declared.rows.LocalRow.{LocalRow}
use Rattle.oob_flow.specs.Frames.{block_sizes, sizes_left, frame_bits, frame_length, frame_samples}
use Rattle.oob_flow.specs.Written.{AreWritten, frame_begin, states_at, written_frame}
use Rattle.oob_flow.specs.Taken.{taken_from}
use Rattle.oob_flow.specs.Reading.{rows_of_bits, rows_of_frame, rows_of_samples}
use Rattle.oob_flow.specs.ReadBack.{ShowsFrame}
use Rattle.oob_flow.proofs.Blocks.{total, total_sizes, sizes_some, sizes_step, frame_bits_length}
use Rattle.oob_flow.proofs.Steps.{states_length as taken_length}
use Rattle.oob_flow.proofs.Sent.{frame_taken, frame_states, frame_numbers, frames_taken, frames_rows}
use Rattle.oob_flow.proofs.Rightly.{IsBetween, frame_right, right_rows, slots_between}
use Rattle.oob_flow.proofs.Tells.{Tells, frame_tells}
use Rattle.oob_flow.proofs.Latest.{frame_counts}

module _ (entries : List ℕ) (local : List LocalRow) (some : 1 ≤ length entries) where
  -- the bits of frame k, and the rows that they are read as
  frame : ℕ → List Bool
  frame k = frame_bits (states_at entries local (frame_begin entries k))

  size : ℕ
  size = length entries + 4 * length (block_sizes (length entries))

  states_length : (k : ℕ) → length (states_at entries local (frame_begin entries k)) ≡ length entries
  states_length k = length-map entries (λ channel. is_locally_on local channel (frame_begin entries k))

  sized : (k : ℕ) → length (frame k) ≡ size
  unfolding frame size frame_length
  sized k =
      let len = states_length k in
      let twice : 2 * length (frame_bits (states_at entries local (frame_begin entries k))) ≡ frame_length (length (states_at entries local (frame_begin entries k))) = frame_bits_length (states_at entries local (frame_begin entries k)) (omega (arith, len)) in
      let same : frame_length (length (states_at entries local (frame_begin entries k))) ≡ frame_length (length entries) = ap frame_length len in
      omega arith

  begin_is : (k : ℕ) → frame_begin entries k ≡ 2 * size * k
  unfolding size frame_length
  begin_is k = refl

  size_some : 1 ≤ size
  unfolding size
  size_some = omega arith

  rows_of_one : ℕ → List FlowRow
  rows_of_one k = rows_of_frame (length entries) (frame_taken (2 * size * k) (frame k))

  -- what was written gives the rows of its frames
  all_rows : (samples : List ℕ) (w : AreWritten entries local samples) → rows_of_samples (length entries) samples ≡ flat_map rows_of_one (range_with_len 0 (w.last + 1))
  unfolding rows_of_samples rows_of_one written_frame frame frame_samples
  all_rows samples w =
      ap (rows_of_samples (length entries)) w.frames
      ∙ ap (rows_of_bits (length entries)) (let z : 0 ≡ 2 * size * 0 = omega arith in ap (λ (n : ℕ). taken_from n false (flat_map (written_frame entries local) (range_with_len 0 (w.last + 1)))) z ∙ frames_taken frame size size_some sized (w.last + 1) 0 false)
      ∙ frames_rows frame size size_some sized (length entries) (w.last + 1) 0

  -- the rows of a frame are those of its states
  rows_are : (k : ℕ) → rows_of_one k ≡ right_rows true (block_sizes (length entries)) (frame_taken (2 * size * k) (frame k)) (states_at entries local (frame_begin entries k))
  unfolding rows_of_one frame
  rows_are k = frame_right (length entries) (frame_taken (2 * size * k) (frame_bits (states_at entries local (frame_begin entries k)))) (states_at entries local (frame_begin entries k)) (states_length k) some (frame_states (2 * size * k) (frame_bits (states_at entries local (frame_begin entries k))))

  -- the slots of the rows of a frame
  slots_of : (k : ℕ) → All (IsBetween (2 * size * k + 2 * min 64 (length entries) + 7) (2 * size * k + 2 * size)) (rows_of_one k)
  unfolding size
  slots_of k =
      let bits : List Bool = frame k in
      let len : length (frame_taken (2 * size * k) (frame k)) ≡ size = sym (taken_length (frame_taken (2 * size * k) (frame k))) ∙ ap length (frame_states (2 * size * k) (frame k)) ∙ sized k in
      let own : length (frame k) ≡ size = sized k in
      let whole : total (block_sizes (length entries)) ≡ length entries = total_sizes (length entries) some in
      let first : block_sizes (length entries) ≡ min 64 (length entries) ∷ sizes_left (length entries - min 64 (length entries)) = sym (sizes_some (length entries) some) ∙ sizes_step (length entries) some in
      subst (All (IsBetween (2 * size * k + 2 * min 64 (length entries) + 7) (2 * size * k + 2 * size))) (sym (rows_are k))
      (slots_between true (block_sizes (length entries)) (frame_taken (2 * size * k) (frame k)) (states_at entries local (frame_begin entries k)) (2 * size * k) (2 * size * k + 2 * min 64 (length entries) + 7) (2 * size * k + 2 * size)
      (λ i l. frame_numbers (2 * size * k) (frame k) i (omega (arith, len, own)))
      (omega (arith, len, whole))
      (λ s others e. (let same : s ≡ min 64 (length entries) = cc in omega (arith, same)))
      (omega (arith, len)))

  next_begin : (k : ℕ) → 2 * size * (k + 1) ≡ 2 * size * k + 2 * size
  next_begin k = let e : k + 1 ≡ suc k = omega arith in ap (λ (n : ℕ). 2 * size * n) e ∙ mul-suc (2 * size) k

  -- the rows of later frames
  late_rows : (t n a : ℕ) → (1 ≤ n → t + 1 < 2 * size * a + 2 * (min 64 (length entries) + 4)) → All (λ (row : FlowRow). t < row.slot) (flat_map rows_of_one (range_with_len a n))
  late_rows t zero a h = All-nil (λ (row : FlowRow). t < row.slot)
  late_rows t (suc n) a h =
      let here : t + 1 < 2 * size * a + 2 * (min 64 (length entries) + 4) = h (omega arith) in
      let next = next_begin a in
      All-append (λ (row : FlowRow). t < row.slot) (rows_of_one a) (flat_map rows_of_one (range_with_len (a + 1) n))
      (All-weaker (IsBetween (2 * size * a + 2 * min 64 (length entries) + 7) (2 * size * a + 2 * size)) (λ (row : FlowRow). t < row.slot) (λ row b. omega (arith, b.0)) (rows_of_one a) (slots_of a))
      (late_rows t n (a + 1) (λ more. omega arith))

  pub shows : (samples : List ℕ) (w : AreWritten entries local samples) (k : ℕ) → k ≤ w.last → ShowsFrame entries local samples w k
  shows samples w k h channel slot contains is =
      let st : ℕ → Bool = λ c. is_locally_on local c (frame_begin entries k) in
      let n : ℕ = w.last - k in
      let count : w.last + 1 ≡ k + suc (w.last - k) = omega arith in
      let start : 0 + k ≡ k = omega arith in
      let before : List FlowRow = flat_map rows_of_one (range_with_len 0 k) in
      let after : List FlowRow = flat_map rows_of_one (range_with_len (k + 1) (w.last - k)) in
      let parts : rows_of_samples (length entries) samples ≡ flat_map rows_of_one (range_with_len 0 k) ++ (rows_of_one k ++ flat_map rows_of_one (range_with_len (k + 1) (w.last - k))) =
      all_rows samples w ∙ ap (λ (m : ℕ). flat_map rows_of_one (range_with_len 0 m)) count ∙ ap (flat_map rows_of_one) (split_range 0 k (suc (w.last - k)))
      ∙ flat_map-append rows_of_one (range_with_len 0 k) (range_with_len (0 + k) (suc (w.last - k)))
      ∙ ap (λ (m : ℕ). flat_map rows_of_one (range_with_len 0 k) ++ (rows_of_one m ++ flat_map rows_of_one (range_with_len (m + 1) (w.last - k)))) start in
      let next = next_begin k in
      let begin : frame_begin entries (k + 1) ≡ 2 * size * (k + 1) = begin_is (k + 1) in
      ap (λ (rows : List FlowRow). is_on entries rows channel slot) parts
      ∙ frame_counts entries st before (rows_of_one k) after channel slot
      (λ r earlier. subst (λ (rows : List FlowRow). Tells entries st 0 (length entries) (told_from entries r earlier rows)) (sym (rows_are k)) (frame_tells entries st r (frame_taken (2 * size * k) (frame k)) earlier some))
      (All-weaker (IsBetween (2 * size * k + 2 * min 64 (length entries) + 7) (2 * size * k + 2 * size)) (λ (row : FlowRow). row.slot ≤ slot) (λ row b. omega (arith, b.1, is.after, begin, next)) (rows_of_one k) (slots_of k))
      (late_rows slot (w.last - k) (k + 1) (λ more. (let l = is.before_next (omega arith) in omega (arith, l, begin))))
      contains.0 contains.1 (get_or_default entries contains.0 0 channel contains.1 ∙ contains.2)

pub read_back : (entries : List ℕ) (local : List LocalRow) (samples : List ℕ) (w : AreWritten entries local samples) (k : ℕ) → 1 ≤ length entries → k ≤ w.last → ShowsFrame entries local samples w k
read_back entries local samples w k some h = shows entries local some samples w k h

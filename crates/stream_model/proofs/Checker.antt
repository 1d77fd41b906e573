-- A checker of streams: it computes, and where it says yes the words are the stream of the source and finish at the slot.
use Rattle.std.proofs.Common.{◌≡◌, ◌≢◌, ◌↔◌, inl, inr, ℕ, zero, suc, ◌+◌, ◌-◌, ◌*◌, ◌/◌, ◌^◌, ◌<◌, ◌≤◌, ◌==◌, Bool, true, false, not, ◌&&◌, ◌||◌, if◌then◌else◌, nat_lt, nat_le, List, [], ◌∷◌, ◌++◌, length, map, take, Contains, Decides, Option, Some, None, slice_get, refl, sym, ap, ◌∙◌, subst, arith, append_assoc, append-nil, bytes_eq, cond, count_by}
use Rattle.std.specs.Cmp.{booleans_Decides}
use Rattle.std.specs.Int.{bit_at}
use Rattle.std.specs.Option.{option_map_or}
use Rattle.std.specs.List.{list_all, list_any}
use Rattle.std.specs.declared.cmp.Ordering.{Ordering}
use Rattle.std.specs.declared.cmp.Ordering.TheVariants.{Less, Equal, Greater}
use Rattle.std.proofs.Math.Bool.{beq}
use Rattle.std.proofs.lemmas.Bool.{agree_below, agree_below_at, and_from, and_parts, or_cases, or_left, or_right, cases_lt, cond-false, cond-true, eq-eqb, eqb-true, false_from_ne_true, false≢true, leb-true, le-leb, lt-ltb, ltb-true, ne_eqb, not-true, not_from_false}
use Rattle.std.proofs.lemmas.List.Sums.{sum_by-append, sum_by-cons}
use Rattle.std.proofs.lemmas.Slice.Eq.{bytes_eq-Decides}
use Rattle.std.proofs.Math.Seq.{take-append_seam}
use Rattle.lk_base.specs.Checksum.{control_crc}
use Rattle.lk_base.specs.Fields.{burst_field, channel_field, channel_number, control_field, crc_field, eop_field, multi_field, reset_field, sop_field}
use Rattle.lk_base.specs.Words.{block, is_control, word_at}
use Rattle.lk_base.specs.declared.word.Word.{Word}
use Rattle.lk_base.specs.declared.word.Word.TheVariants.{Data, Control}
use Rattle.lk_base.proofs.LeastLemmas.{one_least}
use Rattle.stream_model.specs.Calendar.{calendar_bit, first_entry, is_on}
use Rattle.stream_model.specs.BurstStream.{Source, Chunk, HasAnyLeft, IsBurstStream, IsEnding, IsFinish, IsHeld, IsReady, IsRightControl, IsSpaced, bursts_in, chunk_of_burst, chunks_of, controls_in, data_since, data_words, end_format, format_after, is_burst, key, mark_cmp, warmup_slots}
use Rattle.stream_model.specs.declared.rows.FlowRow.{FlowRow}
use Rattle.stream_model.proofs.Blocks.{IsGood, IsWhole, add_block, bit_cases, data_since_block, end_format_block, no_words}
use Rattle.stream_model.proofs.Choosing.{contains_at}
use Rattle.stream_model.proofs.Growing.{length_block}
use Rattle.stream_model.proofs.SourceTest.{all_at, all_from, any_at, any_found, is_listed, listed_decides}

-- ---- the channels, by the words below a slot

module _ (source : Source) (before : List Word) where
  abbrev pub left_ok : ℕ → Bool
  left_ok c = nat_lt (bursts_in before c) (length (chunks_of source c))

  -- of a listed channel
  abbrev pub ready_ok : ℕ → Bool
  ready_ok c = left_ok c && is_on source.entries source.flow c (length before)

  abbrev pub any_left : Bool
  any_left = list_any left_ok source.channels

  abbrev pub any_ready : Bool
  any_ready = list_any ready_ok source.channels

  ready_is : (c : ℕ) → Contains source.channels c → ready_ok c ≡ true → IsReady source before c
  ready_is c known h = let both = and_parts _ _ h in record { known = known; on = both.1; left = ltb-true _ _ both.0 }

  ready_told : (c : ℕ) → IsReady source before c → ready_ok c ≡ true
  ready_told c ready = and_from _ _ (lt-ltb _ _ ready.left) ready.on

  any_ready_told : (c : ℕ) → IsReady source before c → any_ready ≡ true
  any_ready_told c ready = any_at ready_ok source.channels c ready.known (ready_told c ready)

  any_ready_is : any_ready ≡ true → (c : ℕ) × IsReady source before c
  any_ready_is h = let r = any_found ready_ok source.channels h in (r.0, ready_is r.0 r.1 r.2)

  any_left_decides : Decides any_left (HasAnyLeft source before)
  any_left_decides = (
    λ h. (let r = any_found left_ok source.channels h in (r.0, r.1, ltb-true _ _ r.2)),
    λ left. any_at left_ok source.channels left.0 left.1 (lt-ltb _ _ left.2),
  )

-- no burst word among the last k of the first n words
abbrev pub clear : List Word → ℕ → ℕ → Bool
clear w zero n = true
clear w (suc k) zero = true
clear w (suc k) (suc n) = not (is_burst (word_at w n)) && clear w k n

abbrev IsClear : List Word → ℕ → ℕ → Type 0
IsClear w k n = (s : ℕ) → s < n → n ≤ s + k → is_burst (word_at w s) ≡ false

clear_is : (w : List Word) (k n : ℕ) → clear w k n ≡ true → IsClear w k n
clear_is w zero n h s below near = absurd (omega arith)
clear_is w (suc k) zero h s below near = absurd (omega arith)
clear_is w (suc k) (suc n) h s below near =
    let both = and_parts (not (is_burst (word_at w n))) (clear w k n) h in
    elim (cases_lt s n) [
      | inl l ↦ clear_is w k n both.1 s l (omega arith)
      | inr g ↦ (let e : n ≡ s = omega arith in subst (λ (i : ℕ). is_burst (word_at w i) ≡ false) e (not-true _ both.0))
    ]

clear_told : (w : List Word) (k n : ℕ) → IsClear w k n → clear w k n ≡ true
clear_told w zero n h = refl
clear_told w (suc k) zero h = refl
clear_told w (suc k) (suc n) h = and_from _ _ (not_from_false _ (h n (omega arith) (omega arith))) (clear_told w k n (λ s below near. h s (omega arith) (omega arith)))

-- ---- a control word with its data words

-- there is a chunk, of these data words, and it is the first of its packet or not
abbrev pub carries : Option Chunk → List ℕ → Bool → Bool
carries None ds first = false
carries (Some chunk) ds first = bytes_eq ds (data_words chunk.bytes) && beq first chunk.is_first

carried : (o : Option Chunk) (ds : List ℕ) (first : Bool) → carries o ds first ≡ true → (chunk : Chunk) × (o ≡ Some chunk) × (ds ≡ data_words chunk.bytes) × (first ≡ chunk.is_first)
carried None ds first h = grind (arith, and_parts, bytes_eq-Decides)
carried (Some chunk) ds first h = grind (arith, and_parts, bytes_eq-Decides)

abbrev pub is_less : Ordering → Bool
is_less Less = true
is_less Equal = false
is_less Greater = false

less : (o : Ordering) → is_less o ≡ true → o ≡ Less
less Less h = refl
less Equal h = cc
less Greater h = cc

one_where : (n : ℕ) (b : Bool) → (n == 1) ≡ b → (n ≡ 1) ↔ (b ≡ true)
one_where n b e = (λ h. sym e ∙ eq-eqb n 1 h, λ h. eqb-true n 1 (e ∙ h))

not_both : (n : ℕ) → n ≡ 0 → n ≡ 1 → ⊥
not_both n e f = cc

module _ (source : Source) (before : List Word) (x : ℕ) (ds : List ℕ) where
  -- What does not hang on whether it is a burst word. There are n words below, j of them control words; the word has this
  -- end format, and these data words stand right below it.
  abbrev pub sealed_ok : ℕ → ℕ → ℕ → List ℕ → Bool
  sealed_ok n j end since =
      (eop_field x == end)
      && ((control_field x == 1)
      && (beq (reset_field x == 1) (first_entry source.entries j == 0)
      && (agree_below (λ i. bit_at x (55 - i) == 1) (calendar_bit source.entries source.local j n) 16
      && (crc_field x == control_crc since x))))

  -- a burst may start at the slot
  abbrev pub is_due : ℕ → Bool
  is_due n = nat_le (warmup_slots source) n && (clear before (source.shape.burst_short / 8) n && any_ready source before)

  abbrev pub idle_ok : ℕ → Bool
  idle_ok n = not (is_due n) && ((sop_field x == 0) && ((channel_field x == 0) && ((multi_field x == 0) && bytes_eq ds [])))

  -- the channel is before the other one, or that is not ready
  abbrev pub before_ok : ℕ → ℕ → Bool
  before_ok c d = (d == c) || (not (ready_ok source before d) || is_less (mark_cmp (key source before c) (key source before d)))

  abbrev pub burst_ok : ℕ → Bool
  burst_ok n =
      is_due n
      && (is_listed source.channels (channel_number true x)
      && (ready_ok source before (channel_number true x)
      && (carries (chunk_of_burst source before (Control x)) ds (sop_field x == 1)
      && list_all (before_ok (channel_number true x)) source.channels)))

  abbrev pub block_ok : ℕ → ℕ → ℕ → List ℕ → Bool
  block_ok n j end since = nat_lt x (2 ^ 64) && (list_all (λ d. nat_lt d (2 ^ 64)) ds && (sealed_ok n j end since && (if burst_field x == 1 then burst_ok n else idle_ok n)))

  record IsSealed : Type 0 where
    end : eop_field x ≡ end_format source before
    control : control_field x ≡ 1
    reset : (reset_field x ≡ 1) ↔ (first_entry source.entries (controls_in before) ≡ 0)
    entries : (i : ℕ) → i < 16 → (bit_at x (55 - i) == 1) ≡ calendar_bit source.entries source.local (controls_in before) (length before) i
    checksum : crc_field x ≡ control_crc (data_since before) x

  sealed : sealed_ok (length before) (controls_in before) (end_format source before) (data_since before) ≡ true → IsSealed
  sealed h =
      let end = and_parts _ _ h in
      let control = and_parts _ _ end.1 in
      let reset = and_parts _ _ control.1 in
      let rest = and_parts _ _ reset.1 in
      let is = one_where (reset_field x) _ ((booleans_Decides _ _).0 reset.0) in
      record {
        end = eqb-true _ _ end.0;
        control = eqb-true _ _ control.0;
        reset = (λ r. eqb-true _ _ (is.0 r), λ f. is.1 (eq-eqb _ _ f));
        entries = λ i l. agree_below_at (λ i. bit_at x (55 - i) == 1) (calendar_bit source.entries source.local (controls_in before) (length before)) 16 i rest.0 l;
        checksum = eqb-true _ _ rest.1;
      }

  due_told : (warmup_slots source ≤ length before) × ((channel : ℕ) × IsReady source before channel) × IsSpaced source before → is_due (length before) ≡ true
  due_told due = and_from _ _ (le-leb _ _ due.0) (and_from _ _ (clear_told before (source.shape.burst_short / 8) (length before) due.2) (any_ready_told source before due.1.0 due.1.1))

  idle_right : IsSealed → burst_field x ≡ 0 → idle_ok (length before) ≡ true → IsRightControl source before x × IsWhole source before x ds
  idle_right seal none h = grind (arith, and_parts, eqb-true, false≢true, not-true, bytes_eq-Decides, not_both, due_told)

  least : (c : ℕ) → list_all (before_ok c) source.channels ≡ true → (other : ℕ) → IsReady source before other → other ≢ c → mark_cmp (key source before c) (key source before other) ≡ Less
  least c h other ready ne = elim (or_cases (other == c) _ (all_at (before_ok c) source.channels other h ready.known)) [
    | inl e ↦ absurd (ne (eqb-true other c e))
    | inr rest ↦ elim (or_cases (not (ready_ok source before other)) _ rest) [
      | inl off ↦ absurd (false≢true (sym (not-true _ off) ∙ ready_told source before other ready))
      | inr is ↦ less _ is
    ]
  ]

  burst_right : IsSealed → burst_field x ≡ 1 → burst_ok (length before) ≡ true → IsRightControl source before x × IsWhole source before x ds
  burst_right seal one h =
      let c : ℕ = channel_number true x in
      let due = and_parts _ _ h in
      let warm = and_parts _ _ due.0 in
      let clear = and_parts _ _ warm.1 in
      let known = and_parts _ _ due.1 in
      let is_ready = and_parts _ _ known.1 in
      let rest = and_parts _ _ is_ready.1 in
      let has = carried (chunk_of_burst source before (Control x)) ds (sop_field x == 1) rest.0 in
      let ready = ready_is source before c ((listed_decides source.channels c).0 known.0) is_ready.0 in (
        record {
          burst = (λ b. (leb-true _ _ warm.0, (c, ready), clear_is before (source.shape.burst_short / 8) (length before) clear.0), λ _. one);
          idle = λ b. absurd (not_both (burst_field x) b one);
          start = λ b. rw has.1 (one_where (sop_field x) has.0.is_first has.3);
          end = seal.end;
          ready = λ b. ready;
          least = λ b. least c rest.1;
          multi = λ b. absurd (not_both (burst_field x) b one);
          control = seal.control;
          reset = seal.reset;
          entries = seal.entries;
          checksum = seal.checksum;
        },
        record { burst = λ _. (has.0, has.1, has.2); idle = λ b. absurd (not_both (burst_field x) b one) },
      )

  by_kind : IsSealed → (if burst_field x == 1 then burst_ok (length before) else idle_ok (length before)) ≡ true → IsRightControl source before x × IsWhole source before x ds
  by_kind seal h = grind (arith, cond-false, cond-true, eq-eqb, ne_eqb, bit_cases, not_both, idle_right, burst_right)

  add_checked : IsGood source before → block_ok (length before) (controls_in before) (end_format source before) (data_since before) ≡ true → IsGood source (before ++ block x ds)
  add_checked good h =
      let fits = and_parts _ _ h in
      let all_fit = and_parts _ _ fits.1 in
      let rest = and_parts _ _ all_fit.1 in
      let both = by_kind (sealed rest.0) rest.1 in
      add_block source before x ds good (ltb-true _ _ fits.0) (λ k d at. ltb-true d (2 ^ 64) (all_at (λ d. nat_lt d (2 ^ 64)) ds d all_fit.0 (contains_at ds k d at))) both.0 both.1

-- ---- the words by blocks

-- the data words before the first control word, and the blocks
abbrev pub blocks_of : List Word → List ℕ × List (ℕ × List ℕ)
blocks_of [] = ([], [])
blocks_of (Data d ∷ w) = (d ∷ (blocks_of w).0, (blocks_of w).1)
blocks_of (Control x ∷ w) = ([], (x, (blocks_of w).0) ∷ (blocks_of w).1)

abbrev words_of : List (ℕ × List ℕ) → List Word
words_of [] = []
words_of (b ∷ bs) = block b.0 b.1 ++ words_of bs

words_are : (w : List Word) → map Data (blocks_of w).0 ++ words_of (blocks_of w).1 ≡ w
words_are [] = refl
words_are (Data d ∷ w) = ap (λ v. Data d ∷ v) (words_are w)
words_are (Control x ∷ w) = ap (λ v. Control x ∷ v) (words_are w)

-- what a block is asked of the words below it, beside the words themselves
record IsCounted (source : Source) (p : List Word) (n j end : ℕ) (since : List ℕ) : Type 0 where
  words : length p ≡ n
  controls : controls_in p ≡ j
  end_is : end_format source p ≡ end
  since_is : data_since p ≡ since

no_controls : (ds : List ℕ) → count_by is_control (map Data ds) ≡ 0
no_controls [] = refl
no_controls (d ∷ ds) = sum_by-cons (λ v. cond (is_control v) 1 0) (Data d) (map Data ds) ∙ ap (λ n. 0 + n) (no_controls ds) ∙ omega arith

controls_block : (p : List Word) (x : ℕ) (ds : List ℕ) → controls_in (p ++ block x ds) ≡ controls_in p + 1
controls_block p x ds =
    let f = λ (v : Word). cond (is_control v) 1 0 in
    sum_by-append f p (block x ds) ∙ ap (λ n. controls_in p + n) (sum_by-cons f (Control x) (map Data ds) ∙ ap (λ n. 1 + n) (no_controls ds))

-- the end format after a block
abbrev pub end_after : Source → List Word → ℕ → ℕ
end_after source before x = option_map_or format_after (chunk_of_burst source before (Control x)) 0

-- the blocks that the words w have from slot n on
abbrev pub blocks_ok : Source → List Word → ℕ → ℕ → ℕ → List ℕ → List (ℕ × List ℕ) → Bool
blocks_ok source w n j end since [] = true
blocks_ok source w n j end since (b ∷ bs) =
    block_ok source (take n w) b.0 b.1 n j end since
    && blocks_ok source w (n + 1 + length b.1) (j + 1) (end_after source (take n w) b.0) b.1 bs

add_blocks : (source : Source) (w p : List Word) (bs : List (ℕ × List ℕ)) (n j end : ℕ) (since : List ℕ) → w ≡ p ++ words_of bs → IsCounted source p n j end since → blocks_ok source w n j end since bs ≡ true → IsGood source p → IsGood source w
add_blocks source w p [] n j end since e counted h good = subst (IsGood source) (sym (e ∙ append-nil p)) good
add_blocks source w p (b ∷ bs) n j end since e counted h good =
    let taken : take n w ≡ p = ap (λ v. take n v) e ∙ ap (λ k. take k (p ++ words_of (b ∷ bs))) (sym counted.words) ∙ take-append_seam p (words_of (b ∷ bs)) in
    let both = and_parts _ _ (subst (λ v. (block_ok source v b.0 b.1 n j end since && blocks_ok source w (n + 1 + length b.1) (j + 1) (end_after source v b.0) b.1 bs) ≡ true) taken h) in
    let same : block_ok source p b.0 b.1 (length p) (controls_in p) (end_format source p) (data_since p) ≡ block_ok source p b.0 b.1 n j end since =
    ap (λ k. block_ok source p b.0 b.1 k (controls_in p) (end_format source p) (data_since p)) counted.words
    ∙ ap (λ k. block_ok source p b.0 b.1 n k (end_format source p) (data_since p)) counted.controls
    ∙ ap (λ k. block_ok source p b.0 b.1 n j k (data_since p)) counted.end_is
    ∙ ap (λ k. block_ok source p b.0 b.1 n j end k) counted.since_is in
    add_blocks source w (p ++ block b.0 b.1) bs (n + 1 + length b.1) (j + 1) (end_after source p b.0) b.1
    (e ∙ sym (append_assoc p (block b.0 b.1) (words_of bs)))
    (record {
      words = length_block p b.0 b.1 ∙ ap (λ k. k + 1 + length b.1) counted.words;
      controls = controls_block p b.0 b.1 ∙ ap (λ k. k + 1) counted.controls;
      end_is = end_format_block source p b.0 b.1;
      since_is = data_since_block p b.0 b.1;
    })
    both.1
    (add_checked source p b.0 b.1 good (same ∙ both.0))

abbrev pub words_ok : Source → List Word → Bool
words_ok source w = bytes_eq (blocks_of w).0 [] && blocks_ok source w 0 0 0 [] (blocks_of w).1

nothing_counted : (source : Source) → IsCounted source [] 0 0 0 []
unfolding data_since
nothing_counted source = record { words = refl; controls = refl; end_is = refl; since_is = refl }

good : (source : Source) (w : List Word) → words_ok source w ≡ true → IsGood source w
good source w h =
    let both = and_parts _ _ h in
    let none : (blocks_of w).0 ≡ [] = (bytes_eq-Decides (blocks_of w).0 []).0 both.0 in
    add_blocks source w [] (blocks_of w).1 0 0 0 [] (sym (words_are w) ∙ ap (λ ds. map Data ds ++ words_of (blocks_of w).1) none) (nothing_counted source) both.1 (no_words source)

-- ---- the warm-up and the finish

abbrev pub is_idle : Option Word → Bool
is_idle None = false
is_idle (Some (Data x)) = false
is_idle (Some (Control x)) = burst_field x == 0

idle_there : (o : Option Word) → is_idle o ≡ true → (x : ℕ) × (o ≡ Some (Control x)) × (burst_field x ≡ 0)
idle_there None h = cc
idle_there (Some (Data x)) h = cc
idle_there (Some (Control x)) h = (x, refl, eqb-true (burst_field x) 0 h)

abbrev pub has_control : Option Word → Bool
has_control None = false
has_control (Some (Data x)) = false
has_control (Some (Control x)) = true

control_there : (o : Option Word) → has_control o ≡ true → (x : ℕ) × (o ≡ Some (Control x))
control_there None h = cc
control_there (Some (Data x)) h = cc
control_there (Some (Control x)) h = (x, refl)

module _ (source : Source) (w : List Word) where
  abbrev pub ending_ok : ℕ → Bool
  ending_ok z =
      nat_le (warmup_slots source) z
      && (has_control (slice_get w z)
      && (not (any_ready source (take z w))
      && (not (any_left source (take z w)) || list_all (λ (row : FlowRow). nat_le row.slot z) source.flow)))

  ending : (z : ℕ) → ending_ok z ≡ true → IsEnding source w z
  ending z h =
      let warm = and_parts _ _ h in
      let control = and_parts _ _ warm.1 in
      let rest = and_parts _ _ control.1 in
      record {
        control = control_there (slice_get w z) control.0;
        warm = leb-true _ _ warm.0;
        not_ready = λ c ready. false≢true (sym (not-true _ rest.0) ∙ any_ready_told source (take z w) c ready);
        over = elim (or_cases (not (any_left source (take z w))) _ rest.1) [
          | inl none ↦ inl (λ left. false≢true (sym (not-true _ none) ∙ (any_left_decides source (take z w)).1 left))
          | inr rows ↦ inr (λ row is. leb-true row.slot z (all_at (λ (r : FlowRow). nat_le r.slot z) source.flow row rows is))
        ];
      }

  ending_told : (z : ℕ) → IsEnding source w z → ending_ok z ≡ true
  ending_told z e =
      and_from _ _ (le-leb _ _ e.warm)
      (and_from _ _ (ap has_control e.control.1)
      (and_from _ _ (not_from_false _ (false_from_ne_true _ (λ h. let r = any_ready_is source (take z w) h in e.not_ready r.0 r.1)))
      (elim e.over [
        | inl none ↦ or_left _ _ (not_from_false _ (false_from_ne_true _ (λ h. none ((any_left_decides source (take z w)).0 h))))
        | inr rows ↦ or_right _ _ (all_from (λ (row : FlowRow). nat_le row.slot z) source.flow (λ row is. le-leb row.slot z (rows row is)))
      ])))

  -- the words are the stream of the source, and it finishes at slot z
  abbrev pub stream_ok : ℕ → Bool
  stream_ok z =
      words_ok source w
      && (agree_below (λ t. is_idle (slice_get w t)) (λ t. true) (warmup_slots source)
      && (ending_ok z
      && (agree_below ending_ok (λ m. false) z
      && (length w == source.shape.group * (z / source.shape.group + 2)))))

  pub record IsChecked (z : ℕ) : Type 0 where
    pub finishes : IsFinish source w z
    pub has_words : IsBurstStream source w

  pub checked : (z : ℕ) → stream_ok z ≡ true → IsChecked z
  checked z h =
      let words = and_parts _ _ h in
      let warm = and_parts _ _ words.1 in
      let ends = and_parts _ _ warm.1 in
      let first = and_parts _ _ ends.1 in
      let is = good source w words.0 in
      let finish : IsFinish source w z = (ending z ends.0, λ m below e. false≢true (sym (agree_below_at ending_ok (λ m. false) z m first.0 below) ∙ ending_told m e)) in
      record {
        finishes = finish;
        has_words = record {
          sized = is.sized;
          data_in_bursts = is.data_in_bursts;
          warmup = λ t early. idle_there (slice_get w t) (agree_below_at (λ t. is_idle (slice_get w t)) (λ t. true) (warmup_slots source) t warm.0 early);
          chunks = is.chunks;
          controls = is.controls;
          finish = (z, finish, eqb-true _ _ first.1);
        };
      }

  pub held : (z : ℕ) → IsFinish source w z → any_left source (take z w) ≡ true → IsHeld source w
  held z finish h = (z, finish, (any_left_decides source (take z w)).0 h)

  pub not_held : (z : ℕ) → IsFinish source w z → any_left source (take z w) ≡ false → IsHeld source w → ⊥
  not_held z finish h is =
      let one : is.0 ≡ z = one_least (IsEnding source w) is.0 z is.1 finish in
      false≢true (sym h ∙ (any_left_decides source (take z w)).1 (subst (λ (n : ℕ). HasAnyLeft source (take n w)) one is.2))

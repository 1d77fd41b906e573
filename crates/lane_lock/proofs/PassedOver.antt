-- Bytes that a search passes over but for their last words.
use Rattle.std.proofs.Common.{ℕ, ◌≡◌, refl, sym, ap, subst, ◌∙◌, ◌+◌, ◌-◌, ◌*◌, ◌/◌, ◌%◌, ◌<◌, ◌≤◌, Bool, false, List, [], ◌∷◌, ◌++◌, length, take, drop, map, replicate, arith, inl, inr, append_assoc, append-nil, length-append}
use Rattle.std.specs.Bool.{MatchBool}
use Rattle.std.specs.List.{range_with_len}
use Rattle.std.proofs.lemmas.Bool.{and_right, cases_lt, le-leb, lt-leb}
use Rattle.std.proofs.lemmas.List.{ext_get_or, length-replicate, length-take-le, map-append, take-append-drop}
use Rattle.std.proofs.lemmas.List.FromFn.{get_or-map-range_with_len, length-map-range_with_len}
use Rattle.std.proofs.lemmas.Nat.{div-add-mod', mod_below}
use Rattle.std.proofs.lemmas.Grind.{flat_map-append}
use Rattle.std.proofs.Math.ListN.{get_or-eq_default}
use Rattle.std.proofs.Math.Seq.{drop-append-add, get_or-append_right}
use Rattle.lk_base.proofs.Lists.{split_range}
use Rattle.lk_base.specs.Checksum.{bits_of, bits_of_bytes}
use Rattle.lk_base.specs.Link.{Settings}
use Rattle.lane_model.specs.Bits.{high_number}
use Rattle.lane_model.specs.Coding.{is_legal}
use Rattle.lock_model.specs.declared.types.LaneStep.{LaneStep}
use Rattle.lock_model.specs.declared.types.LaneStep.TheVariants as steps
use Rattle.lock_model.specs.Locks.{LocksWords, code_at, has_legal, has_sync, has_word}
use Rattle.lock_model.specs.Steps.{AreSteps, step_of}
use Rattle.lock_model.proofs.Existing.{clash}
use Rattle.lock_model.proofs.Prefixes.{legal_here, legal_same}
use Rattle.phase_finder.specs.Phases.{Watches}
use Rattle.phase_finder.specs.Runs.{hit_at}
use Rattle.phase_finder.proofs.Passing.{others_agree}
use Rattle.lane_lock.specs.Bytes.{Brings, BringsBatch}
use Rattle.lane_lock.specs.Lane.{LaneView}
use Rattle.lane_lock.specs.Marks.{IsAlive, MarkList, Recalls, RecallsAlive}
use Rattle.lane_lock.specs.Search.{CanPass}
use Rattle.lane_lock.specs.Standing.{Chain, Holds, Hunts, IsStep, Stands, positions, tally}
use Rattle.lane_lock.proofs.Batches.{length-bytes, low_nothings, shown_nothings}
use Rattle.lane_lock.proofs.Chains.{chain_attempts, step_is}
use Rattle.lane_lock.proofs.Far.{begun_early}
use Rattle.lane_lock.proofs.Hunting.{count_positions, last_word}
use Rattle.lane_lock.proofs.LastWord.{hunted}
use Rattle.lane_lock.proofs.Resting.{one_step}
use Rattle.lane_lock.proofs.Windows.{window_is}

-- ---- bits as a list of their own

module _ (before given : List Bool) (x q : ℕ) (at : length before + x ≡ q) where
  code_after : code_at (before ++ given) q ≡ code_at given x
  unfolding code_at
  code_after = ap (λ (n : ℕ). high_number (take 67 (drop n (before ++ given)))) (sym at) ∙ ap (λ (bs : List Bool). high_number (take 67 bs)) (drop-append-add before given x)

  there_after : has_word (before ++ given) q ≡ has_word given x
  there_after =
      let l = length-append before given in
      elim (cases_lt (length given) (x + 67)) [
        | inl lt ↦ lt-leb (q + 67) (length (before ++ given)) (omega (arith, l, lt, at)) ∙ sym (lt-leb (x + 67) (length given) lt)
        | inr le ↦ le-leb (q + 67) (length (before ++ given)) (omega (arith, l, le, at)) ∙ sym (le-leb (x + 67) (length given) le)
      ]

  legal_after : has_legal (before ++ given) q ≡ has_legal given x
  legal_after = rw (there_after, code_after) refl

  sync_after : has_sync (before ++ given) q ≡ has_sync given x
  sync_after = rw (there_after, code_after) refl

-- ---- steps of bits that show nothing

quiet_steps : (s : Settings) (bits given : List Bool) (own : List LaneStep) → AreSteps s bits own →
    ((b : Bool) (rest more : List Bool) → given ≡ (b ∷ rest) ++ more → IsStep s (bits ++ b ∷ rest) steps.Nothing) → AreSteps s (bits ++ given) (own ++ replicate (length given) steps.Nothing)
quiet_steps s bits [] own are quiet = subst (λ (bs : List Bool). AreSteps s bs (own ++ [])) (sym (append-nil bits)) (subst (λ (xs : List LaneStep). AreSteps s bits xs) (sym (append-nil own)) are)
quiet_steps s bits (b ∷ given) own are quiet =
    let next = one_step s bits b own steps.Nothing are (quiet b [] given refl) in
    let rest = quiet_steps s (bits ++ b ∷ []) given (own ++ steps.Nothing ∷ []) next
    (λ c rest more e. subst (λ (bs : List Bool). IsStep s bs steps.Nothing) (sym (append_assoc bits (b ∷ []) (c ∷ rest))) (quiet b (c ∷ rest) more (ap (λ (xs : List Bool). b ∷ xs) e))) in
    subst (λ (bs : List Bool). AreSteps s bs (own ++ steps.Nothing ∷ replicate (length given) steps.Nothing)) (append_assoc bits (b ∷ []) given)
    (subst (λ (xs : List LaneStep). AreSteps s ((bits ++ b ∷ []) ++ given) xs) (append_assoc own (steps.Nothing ∷ []) (replicate (length given) steps.Nothing)) rest)

-- ---- what comes where bytes can be passed over

module _ (v : LaneView) (s : Settings) (bits : List Bool) (st : Stands v s bits) (bytes : List ℕ) (words : ℕ) (can : CanPass v bytes words) where
  abbrev pub given : List Bool
  given = bits_of_bytes bytes

  abbrev pub many : ℕ
  many = 8 * length bytes

  h : Hunts v s bits st.front
  h = hunted v s bits st can.searching

  long : length given ≡ many
  long = length-bytes bytes

  both : length (bits ++ given) ≡ length bits + many
  both = length-append bits given ∙ ap (λ (n : ℕ). length bits + n) long

  -- a position of each phase in the first bytes has an illegal header
  early : (j : ℕ) → j < 67 → (i : ℕ) × (1 ≤ i) × (i ≤ 24) × (has_legal (bits ++ given) (length bits + (1982 + j - 67 * i)) ≡ false)
  early j lt =
      let head = bits_of_bytes (take 256 bytes) in
      let n : length head ≡ 2048 = length-bytes (take 256 bytes) ∙ ap (λ (k : ℕ). 8 * k) (length-take-le 256 bytes can.least) in
      let f = can.first.2 j lt in
      let few = can.first.1 in
      let x = 1982 + j - 67 * f.0 in
      let at : length head + j - 66 - 67 * f.0 ≡ x = omega (arith, n) in
      let one = f.1 in
      let most = f.2 in
      let parts : given ≡ head ++ bits_of_bytes (drop 256 bytes) = sym (cut_bytes (take 256 bytes) (drop 256 bytes) (take-append-drop 256 bytes)) in
      let here : has_legal head x ≡ false = and_right (has_word head x) (is_legal (code_at head x)) (ap (λ (k : ℕ). is_legal (code_at head k)) (sym at) ∙ f.3) in
      let inside : x + 67 ≤ length head = omega (arith, n, one, lt) in (
        f.0,
        one,
        omega (arith, most, few),
        legal_after bits given x (length bits + x) refl
            ∙ ap (λ (bs : List Bool). has_legal bs x) parts ∙ legal_same 32 head (bits_of_bytes (drop 256 bytes)) x inside ∙ here,
      )
    where
      cut_bytes : (one two : List ℕ) → one ++ two ≡ bytes → bits_of_bytes one ++ bits_of_bytes two ≡ given
      cut_bytes one two e = sym (flat_map-append (bits_of 8) one two) ∙ ap bits_of_bytes e

  none_later : (q : ℕ) → v.from ≤ q → LocksWords (bits ++ given) q → ⊥
  none_later q low locks =
      let there = last_word (bits ++ given) q locks in
      let l = both in
      let top = can.most in
      elim (cases_lt (length bits) (q + 67 * 33)) [
        | inr le ↦ begun_early v s bits given st.front q h can.far low le locks
        | inl lt ↦
            let ahead = length bits + 1982 - q in
            let d = div-add-mod' (ahead + 66) 67 in
            let r : (ahead + 66) % 67 < 67 = mod_below (ahead + 66) 67 (omega arith) in
            let j = 66 - (ahead + 66) % 67 in
            let e = early j (omega arith) in
            let one = e.1 in
            let most = e.2 in
            let t = (ahead + 66) / 67 - e.0 in
            let at : q + 67 * t ≡ length bits + (1982 + j - 67 * e.0) = omega (arith, d, r, one, most, there, l, top) in
            let few : t < 64 = omega (arith, at, lt, one) in
            clash (locks t few) (ap (has_legal (bits ++ given)) at ∙ e.3)
      ]

  pub quiet_all : (own : List LaneStep) → AreSteps s bits own → AreSteps s (bits ++ given) (own ++ replicate many steps.Nothing)
  quiet_all own are =
      subst (λ (n : ℕ). AreSteps s (bits ++ given) (own ++ replicate n steps.Nothing)) long
      (quiet_steps s bits given own are (λ b rest more e.
      let all : (bits ++ b ∷ rest) ++ more ≡ bits ++ given = append_assoc bits (b ∷ rest) more ∙ ap (λ (bs : List Bool). bits ++ bs) (sym e) in
      let none : (q : ℕ) → v.from ≤ q → LocksWords (bits ++ b ∷ rest) q → ⊥ = λ q low locks. none_later q low (subst (λ (bs : List Bool). LocksWords bs q) all
      (λ t lt. legal_same 32 (bits ++ b ∷ rest) more (q + 67 * t) (legal_here 32 (bits ++ b ∷ rest) [] (q + 67 * t) (locks t lt)) ∙ locks t lt)) in
      step_is s (bits ++ b ∷ rest) (st.front ++ []) steps.Nothing (chain_attempts s.metaframe (bits ++ b ∷ rest) 0 v.from st.front [] (st.over (b ∷ rest)) none)
      (sym (ap (step_of s (bits ++ b ∷ rest)) (append-nil st.front) ∙ h.quiet b rest))))

  -- ---- the positions

  -- those of the bits before, those that are passed over, and those of the last words
  abbrev pub old : ℕ
  old = length bits - (v.from + 66)

  abbrev pub passed : ℕ
  passed = many - 67 * words

  abbrev pub last : ℕ
  last = 67 * words

  -- where the last words begin in the new bits
  abbrev pub start : ℕ
  start = many - 66 - 67 * words

  sizes : (67 * words ≤ 1608) × (2048 ≤ many) × (v.from + 67 ≤ length bits) × (passed + last ≡ many) × (start + 66 + last ≡ many)
  sizes =
      let w = can.few in
      let n = can.least in
      let b = can.begun in
      let c = st.count in
      (omega arith, omega arith, omega arith, omega arith, omega arith)

  abbrev pub test_of : (List Bool → ℕ → Bool) → List Bool
  test_of test = map (test (bits ++ given)) (range_with_len v.from (old + passed))

  abbrev pub last_of : (List Bool → ℕ → Bool) → List Bool
  last_of test = map (test given) (range_with_len start last)

  in_two : (test : List Bool → ℕ → Bool) → ((x q : ℕ) → length bits + x ≡ q → test (bits ++ given) q ≡ test given x) → positions test (bits ++ given) v.from ≡ test_of test ++ last_of test
  in_two test same =
      let z = sizes in
      let z0 = z.0 in
      let z1 = z.1 in
      let z2 = z.2 in
      let z3 = z.3 in
      let z4 = z.4 in
      let l = both in
      let n : length (bits ++ given) - (v.from + 66) ≡ (old + passed) + last = omega arith in
      ap (λ (k : ℕ). map (test (bits ++ given)) (range_with_len v.from k)) n
      ∙ ap (map (test (bits ++ given))) (split_range v.from (old + passed) last)
      ∙ map-append (test (bits ++ given)) (range_with_len v.from (old + passed)) (range_with_len (v.from + (old + passed)) last)
      ∙ ap (λ (xs : List Bool). test_of test ++ xs)
      (ext_get_or false (map (test (bits ++ given)) (range_with_len (v.from + (old + passed)) last)) (last_of test)
      (length-map-range_with_len (test (bits ++ given)) (v.from + (old + passed)) last ∙ sym (length-map-range_with_len (test given) start last))
      (λ i lt.
      let k = length-map-range_with_len (test (bits ++ given)) (v.from + (old + passed)) last in
      let below : i < last = omega (arith, k, lt) in
      get_or-map-range_with_len (test (bits ++ given)) (v.from + (old + passed)) last i (v.from + (old + passed) + i) false below refl
      ∙ same (start + i) (v.from + (old + passed) + i) (omega (arith, z0, z1, z2, z3, z4))
      ∙ sym (get_or-map-range_with_len (test given) start last i (start + i) false below refl)))

  -- the position of each phase in the last words that has an illegal header, counted from the first of the search
  missed : (n : ℕ) → (old + passed) + last ≤ n → n < (old + passed) + last + 67 →
      (m i : ℕ) × (m + i * 67 ≡ n) × (1 ≤ i) × (old + passed ≤ m) × (m < (old + passed) + last) × (has_legal given (start + (m - (old + passed))) ≡ false)
  missed n low high =
      let z = sizes in
      let z0 = z.0 in
      let z1 = z.1 in
      let z3 = z.3 in
      let z4 = z.4 in
      let l = long in
      let j = n - ((old + passed) + last) in
      let f = can.last j (omega arith) in
      let one = f.1 in
      let most = f.2 in
      let at : length given + j - 66 - 67 * f.0 ≡ start + (n - 67 * f.0 - (old + passed)) = omega arith in (
        n - 67 * f.0,
        f.0,
        omega arith,
        one,
        omega arith,
        omega arith,
        and_right (has_word given (start + (n - 67 * f.0 - (old + passed)))) (is_legal (code_at given (start + (n - 67 * f.0 - (old + passed)))))
            (ap (λ (k : ℕ). is_legal (code_at given k)) (sym at) ∙ f.3),
      )

  last_at : (test : List Bool → ℕ → Bool) (front : List Bool) (m : ℕ) → length front ≡ old + passed → old + passed ≤ m → m < (old + passed) + last →
      hit_at (front ++ last_of test) m ≡ test given (start + (m - (old + passed)))
  last_at test front m e low high =
      get_or-append_right front (last_of test) m false (omega (arith, e, low))
      ∙ ap (λ (k : ℕ). hit_at (last_of test) (m - k)) e
      ∙ get_or-map-range_with_len (test given) start last (m - (old + passed)) (start + (m - (old + passed))) false (omega arith) refl

  -- ---- what the search knows after them

  counts : (starts : _) → Watches starts 67 64 v.from ((positions has_legal bits v.from ++ replicate passed false) ++ last_of has_legal) →
      Watches starts 67 64 v.from (positions has_legal (bits ++ given) v.from)
  counts starts w =
      let front = positions has_legal bits v.from ++ replicate passed false in
      let n : length front ≡ old + passed = length-append (positions has_legal bits v.from) (replicate passed false)
      ∙ ap (λ (k : ℕ). k + length (replicate passed false)) (count_positions has_legal bits v.from) ∙ ap (λ (k : ℕ). (length bits - (v.from + 66)) + k) (length-replicate passed false) in
      let m : length (test_of has_legal) ≡ old + passed = length-map-range_with_len (has_legal (bits ++ given)) v.from (old + passed) in
      let k : length (front ++ last_of has_legal) ≡ (old + passed) + last = length-append front (last_of has_legal) ∙ ap (λ (x : ℕ). x + length (last_of has_legal)) n
      ∙ ap (λ (x : ℕ). (old + passed) + x) (length-map-range_with_len (has_legal given) start last) in
      subst (Watches starts 67 64 v.from) (sym (in_two has_legal (λ x q at. legal_after bits given x q at)))
      (others_agree starts 67 64 v.from front (test_of has_legal) (last_of has_legal) (omega arith) (n ∙ sym m)
      (λ x low high.
      let f = missed x (omega (arith, k, low)) (omega (arith, k, high)) in
      let one = f.3 in
      let sum = f.2 in
      (f.0, f.1 - 1, omega (arith, sum, one), omega (arith, n, f.4), last_at has_legal front f.0 n f.4 f.5 ∙ f.6)) w)

  marks : (w : MarkList) → (n : ℕ) → n ≡ old → Recalls w (replicate (n + passed) false ++ last_of has_sync) →
      RecallsAlive w (positions has_legal (bits ++ given) v.from) (positions has_sync (bits ++ given) v.from)
  marks w n e r =
      let kept = replicate (n + passed) false in
      let k : length kept ≡ old + passed = length-replicate (n + passed) false ∙ ap (λ (x : ℕ). x + passed) e in
      let a : length (test_of has_legal) ≡ old + passed = length-map-range_with_len (has_legal (bits ++ given)) v.from (old + passed) in
      let b : length (test_of has_sync) ≡ old + passed = length-map-range_with_len (has_sync (bits ++ given)) v.from (old + passed) in
      let one : positions has_legal (bits ++ given) v.from ≡ test_of has_legal ++ last_of has_legal = in_two has_legal (λ x q at. legal_after bits given x q at) in
      let two : positions has_sync (bits ++ given) v.from ≡ test_of has_sync ++ last_of has_sync = in_two has_sync (λ x q at. sync_after bits given x q at) in
      let la : length (test_of has_legal ++ last_of has_legal) ≡ (old + passed) + last = length-append (test_of has_legal) (last_of has_legal)
      ∙ ap (λ (x : ℕ). x + length (last_of has_legal)) a ∙ ap (λ (x : ℕ). (old + passed) + x) (length-map-range_with_len (has_legal given) start last) in
      let lb : length (test_of has_sync ++ last_of has_sync) ≡ (old + passed) + last = length-append (test_of has_sync) (last_of has_sync)
      ∙ ap (λ (x : ℕ). x + length (last_of has_sync)) b ∙ ap (λ (x : ℕ). (old + passed) + x) (length-map-range_with_len (has_sync given) start last) in
      let lk : length (kept ++ last_of has_sync) ≡ (old + passed) + last = length-append kept (last_of has_sync)
      ∙ ap (λ (x : ℕ). x + length (last_of has_sync)) k ∙ ap (λ (x : ℕ). (old + passed) + x) (length-map-range_with_len (has_sync given) start last) in
      subst (λ (hits : List Bool). RecallsAlive w hits (positions has_sync (bits ++ given) v.from)) (sym one)
      (subst (RecallsAlive w (test_of has_legal ++ last_of has_legal)) (sym two) (record {
        kept = kept ++ last_of has_sync;
        recalls = r;
        long = lk ∙ sym lb;
        alive = λ m is. elim (cases_lt m (old + passed)) [
          | inl lt ↦ absurd (dead m lt a la is)
          | inr le ↦ elim (cases_lt m ((old + passed) + last)) [
            | inl below ↦ last_at has_sync kept m k le below ∙ sym (last_at has_sync (test_of has_sync) m b le below)
            | inr above ↦ get_or-eq_default (kept ++ last_of has_sync) false (omega (arith, lk, above)) ∙ sym (get_or-eq_default (test_of has_sync ++ last_of has_sync) false (omega (arith, lb, above)))
          ]
        ];
      }))
    where
      -- no earlier position is alive
      dead : (m : ℕ) → m < old + passed → length (test_of has_legal) ≡ old + passed → length (test_of has_legal ++ last_of has_legal) ≡ (old + passed) + last → IsAlive (test_of has_legal ++ last_of has_legal) m → ⊥
      dead m lt a la is =
          let ahead = (old + passed) + last - m in
          let d = div-add-mod' (ahead + 66) 67 in
          let r : (ahead + 66) % 67 < 67 = mod_below (ahead + 66) 67 (omega arith) in
          let t = (ahead + 66) / 67 in
          let f = missed (m + t * 67) (omega arith) (omega arith) in
          let sum = f.2 in
          let low = f.4 in
          let high = f.5 in
          let at : m + (t - f.1) * 67 ≡ f.0 = omega (arith, sum, low, lt) in
          clash (is (t - f.1) (omega (arith, la, at, high))) (ap (hit_at (test_of has_legal ++ last_of has_legal)) at ∙ last_at has_legal (test_of has_legal) f.0 a f.4 f.5 ∙ f.6)

  pub passes : (w : LaneView) (code n : ℕ) → w.watch.settings ≡ v.watch.settings → w.window ≡ code → code ≡ code_at given (many - 67) → w.taken ≡ v.taken + many → w.from ≡ v.from → w.watching ≡ v.watching → w.report ≡ v.report →
      Watches w.starts 67 64 v.from ((positions has_legal bits v.from ++ replicate passed false) ++ last_of has_legal) →
      n ≡ old → Recalls w.marks (replicate (n + passed) false ++ last_of has_sync) → Stands w s (bits ++ given)
  passes w code n e1 e2 ec e3 ef ew er starts en recalls =
      let c = st.count in
      let z = sizes in
      let z1 = z.1 in
      let l = both in
      let hunts : Hunts w s (bits ++ given) st.front = record {
        starts = subst (λ (x : ℕ). Watches w.starts 67 64 x (positions has_legal (bits ++ given) x)) (sym ef) (counts w.starts starts);
        marks = subst (λ (x : ℕ). RecallsAlive w.marks (positions has_legal (bits ++ given) x) (positions has_sync (bits ++ given) x)) (sym ef) (marks w.marks n en recalls);
        none = subst (λ (x : ℕ). (q : ℕ) → x ≤ q → LocksWords (bits ++ given) q → ⊥) (sym ef) none_later;
        counts = λ rest. er ∙ h.counts (given ++ rest) ∙ ap (λ (xs : List Bool). tally s xs st.front []) (sym (append_assoc bits given rest));
        quiet = λ b rest. ap (λ (bs : List Bool). step_of s bs st.front) (append_assoc bits given (b ∷ rest)) ∙ quiet_after given b rest;
      } in
      record {
        link = st.link;
        of_link = e1 ∙ st.of_link;
        window = e2 ∙ ec ∙ sym (code_after bits given (many - 67) (length bits + (many - 67)) refl) ∙ sym (window_is (bits ++ given) (length bits + (many - 67)) (omega arith));
        count = e3 ∙ omega arith;
        front = st.front;
        over = λ rest. subst (λ (x : ℕ). Chain s.metaframe ((bits ++ given) ++ rest) 0 st.front x) (sym ef)
            (subst (λ (bs : List Bool). Chain s.metaframe bs 0 st.front v.from) (sym (append_assoc bits given rest)) (st.over (given ++ rest)));
        state = subst (λ (x : Bool). MatchBool x (Holds w s (bits ++ given) st.front) (Hunts w s (bits ++ given) st.front)) (sym (ew ∙ can.searching)) hunts;
      }
    where
      quiet_after : (g : List Bool) (b : Bool) (rest : List Bool) → step_of s (bits ++ (g ++ b ∷ rest)) st.front ≡ steps.Nothing
      quiet_after [] b rest = h.quiet b rest
      quiet_after (x ∷ g) b rest = h.quiet x (g ++ b ∷ rest)

-- bytes of which no bit completes a step append none
pub quiet_batch : (v w : LaneView) (bytes : List ℕ) (before : List LaneStep) → Brings v w (bits_of_bytes bytes) (replicate (8 * length bytes) steps.Nothing) → BringsBatch v w (bits_of_bytes bytes) before before
quiet_batch v w bytes before brings =
    let n = 8 * length bytes in
    record {
      column = replicate n steps.Nothing;
      long = length-replicate n steps.Nothing ∙ sym (length-bytes bytes);
      low = low_nothings n;
      appended = sym (ap (λ (xs : List LaneStep). before ++ xs) (shown_nothings n) ∙ append-nil before);
      brings = brings;
    }

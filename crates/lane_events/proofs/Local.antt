-- The events of a word are determined by the bits up to its end.
use Rattle.std.proofs.Common.{ℕ, zero, suc, ◌≡◌, refl, sym, ap, ◌∙◌, ◌+◌, ◌-◌, ◌*◌, ◌/◌, ◌%◌, ◌<◌, ◌≤◌, ◌==◌, ◌&&◌, not, Bool, List, [], ◌∷◌, ◌++◌, length, map, filter, flat_map, take, drop, arith, eqb-true}
use Rattle.std.specs.List.{list_any, range_with_len}
use Rattle.std.proofs.Math.Nat.{div-add-mod}
use Rattle.std.proofs.lemmas.List.{drop-append-le, take-append-le, length-drop}
use Rattle.lk_base.specs.Link.{Settings}
use Rattle.lk_base.specs.Words.{is_bad}
use Rattle.lane_model.specs.Bits.{high_number}
use Rattle.lane_model.specs.Coding.{disparity}
use Rattle.lane_model.specs.Framing.{role_of}
use Rattle.lane_model.proofs.Numbers.{split}
use Rattle.lock_model.specs.Locks.{code_at, is_wrong_state, is_wrong_sync, loaded, sync_place, state_place}
use Rattle.lock_model.specs.Received.{received_at}
use Rattle.lock_model.specs.Report.{has_right_diagnostic}
use Rattle.lock_model.proofs.Prefixes.{at_same}
use Rattle.lock_model.proofs.Tracked.{received-first}
use Rattle.lane_events.specs.declared.types.EventKind.{EventKind}
use Rattle.lane_events.specs.declared.types.EventKind.TheVariants as kinds
use Rattle.lane_events.specs.declared.types.LaneEvent.{LaneEvent}
use Rattle.lane_events.specs.Balance.{is_far_off}
use Rattle.lane_events.specs.Events.{all_kinds, has_event, is_no_skip, is_skip_place, is_unbalanced, is_unhealthy, word_events}

-- ---- lists over ranges

pub maps_same : {X : Type 0} (f g : ℕ → X) (a n : ℕ) → ((k : ℕ) → a ≤ k → k < a + n → f k ≡ g k) → map f (range_with_len a n) ≡ map g (range_with_len a n)
maps_same f g a zero h = refl
maps_same f g a (suc n) h =
    let here : f a ≡ g a = h a (omega arith) (omega arith) in
    let rest : map f (range_with_len (a + 1) n) ≡ map g (range_with_len (a + 1) n) = maps_same f g (a + 1) n (λ k le lt. h k (omega (arith, le)) (omega (arith, lt))) in
    cc

pub flat_maps_same : {X : Type 0} (f g : ℕ → List X) (a n : ℕ) → ((k : ℕ) → a ≤ k → k < a + n → f k ≡ g k) → flat_map f (range_with_len a n) ≡ flat_map g (range_with_len a n)
flat_maps_same f g a zero h = refl
flat_maps_same f g a (suc n) h =
    let here : f a ≡ g a = h a (omega arith) (omega arith) in
    let rest : flat_map f (range_with_len (a + 1) n) ≡ flat_map g (range_with_len (a + 1) n) = flat_maps_same f g (a + 1) n (λ k le lt. h k (omega (arith, le)) (omega (arith, lt))) in
    ap (λ xs. xs ++ flat_map f (range_with_len (a + 1) n)) here ∙ ap (λ xs. g a ++ xs) rest

pub anys_same : (f g : ℕ → Bool) (a n : ℕ) → ((k : ℕ) → a ≤ k → k < a + n → f k ≡ g k) → list_any f (range_with_len a n) ≡ list_any g (range_with_len a n)
anys_same f g a zero h = refl
anys_same f g a (suc n) h =
    let here : f a ≡ g a = h a (omega arith) (omega arith) in
    let rest : list_any f (range_with_len (a + 1) n) ≡ list_any g (range_with_len (a + 1) n) = anys_same f g (a + 1) n (λ k le lt. h k (omega (arith, le)) (omega (arith, lt))) in
    rw (here, rest) refl

pub filters_same : (f g : EventKind → Bool) (xs : List EventKind) → ((k : EventKind) → f k ≡ g k) → filter f xs ≡ filter g xs
filters_same f g [] h = refl
filters_same f g (x ∷ xs) h = rw (h x, filters_same f g xs h) refl

abbrev event : ℕ → EventKind → LaneEvent
event bit kind = record { bit = bit; kind = kind }

-- ---- one word, that ends in the first bits

module _ (s : Settings) (some : 0 < s.metaframe) (bits more : List Bool) where
  pub code_same : (q : ℕ) → q + 67 ≤ length bits → code_at (bits ++ more) q ≡ code_at bits q
  unfolding code_at
  code_same q h =
      ap (λ b. high_number (take 67 b)) (drop-append-le q bits more (omega arith))
      ∙ ap high_number (take-append-le 67 (drop q bits) more (let e = length-drop q bits in omega (arith, e)))

  module _ (at : ℕ) where
    received_same : (r : ℕ) → at + 67 * r + 67 ≤ length bits → received_at s (bits ++ more) at r ≡ received_at s bits at r
    received_same zero h =
        received-first s some (bits ++ more) at ∙ at_same s.metaframe bits more at (omega (arith, h)) ∙ sym (received-first s some bits at)
    received_same (suc r) h =
        rw (at_same s.metaframe bits more (at + 67) (omega (arith, h)), at_same s.metaframe bits more (at + 67 * suc r) h) refl

    wrong_sync : (r : ℕ) → at + 67 * r + 67 ≤ length bits → is_wrong_sync s.metaframe (bits ++ more) at (r / s.metaframe) ≡ is_wrong_sync s.metaframe bits at (r / s.metaframe)
    wrong_sync r h = let e = div-add-mod r s.metaframe in rw (at_same s.metaframe bits more (sync_place s.metaframe at (r / s.metaframe)) (omega (arith, e, h))) refl

    wrong_state : (r : ℕ) → at + 67 * r + 67 ≤ length bits → ((r % s.metaframe == 1) && is_wrong_state s.metaframe (bits ++ more) at (r / s.metaframe))
        ≡ ((r % s.metaframe == 1) && is_wrong_state s.metaframe bits at (r / s.metaframe))
    wrong_state r h = split
        (λ t. (let one = eqb-true (r % s.metaframe) 1 t in let e = div-add-mod r s.metaframe in
        let loads : loaded (bits ++ more) at ≡ loaded bits at = rw (at_same s.metaframe bits more (at + 67) (omega (arith, one, e, h))) refl in
        ap (λ b. (r % s.metaframe == 1) && b) (rw (loads, at_same s.metaframe bits more (state_place s.metaframe at (r / s.metaframe)) (omega (arith, one, e, h))) refl)))
        (λ f. rw f refl)

    -- the words of a metaframe whose last is word r
    right_diagnostic : (r : ℕ) → at + 67 * r + 67 ≤ length bits → r % s.metaframe ≡ s.metaframe - 1 →
        has_right_diagnostic s (bits ++ more) at (r / s.metaframe) ≡ has_right_diagnostic s bits at (r / s.metaframe)
    unfolding has_right_diagnostic
    right_diagnostic r h last =
        let e = div-add-mod r s.metaframe in
        let p : r / s.metaframe * s.metaframe ≡ s.metaframe * (r / s.metaframe) = grind arith in
        let words = maps_same (received_at s (bits ++ more) at) (received_at s bits at) (r / s.metaframe * s.metaframe) (s.metaframe - 1)
        (λ k le lt. received_same k (omega (arith, e, p, h, last, lt))) in
        rw (words, received_same (r / s.metaframe * s.metaframe + (s.metaframe - 1)) (omega (arith, e, p, h, last))) refl

    diagnostic : (r : ℕ) → at + 67 * r + 67 ≤ length bits → ((r % s.metaframe == s.metaframe - 1) && not (has_right_diagnostic s (bits ++ more) at (r / s.metaframe)))
        ≡ ((r % s.metaframe == s.metaframe - 1) && not (has_right_diagnostic s bits at (r / s.metaframe)))
    diagnostic r h = split
        (λ t. ap (λ b. (r % s.metaframe == s.metaframe - 1) && not b) (right_diagnostic r h (eqb-true (r % s.metaframe) (s.metaframe - 1) t)))
        (λ f. rw f refl)

    health : (r : ℕ) → at + 67 * r + 67 ≤ length bits →
        ((r % s.metaframe == s.metaframe - 1) && has_right_diagnostic s (bits ++ more) at (r / s.metaframe) && is_unhealthy (received_at s (bits ++ more) at r))
        ≡ ((r % s.metaframe == s.metaframe - 1) && has_right_diagnostic s bits at (r / s.metaframe) && is_unhealthy (received_at s bits at r))
    health r h = split
        (λ t. ap (λ w. (r % s.metaframe == s.metaframe - 1) && has_right_diagnostic s (bits ++ more) at (r / s.metaframe) && is_unhealthy w) (received_same r h)
        ∙ ap (λ b. (r % s.metaframe == s.metaframe - 1) && b && is_unhealthy (received_at s bits at r)) (right_diagnostic r h (eqb-true (r % s.metaframe) (s.metaframe - 1) t)))
        (λ f. rw f refl)

    pub codes_same : (n : ℕ) → at + 67 * n ≤ length bits → map (λ k. code_at (bits ++ more) (at + 67 * k)) (range_with_len 0 n) ≡ map (λ k. code_at bits (at + 67 * k)) (range_with_len 0 n)
    codes_same n h = maps_same (λ k. code_at (bits ++ more) (at + 67 * k)) (λ k. code_at bits (at + 67 * k)) 0 n (λ k le lt. code_same (at + 67 * k) (omega (arith, lt, h)))

    unbalanced : (r : ℕ) → at + 67 * r + 67 ≤ length bits → is_unbalanced (bits ++ more) at r ≡ is_unbalanced bits at r
    unfolding is_unbalanced
    unbalanced r h = ap (λ codes. is_far_off (disparity codes)) (codes_same (r + 1) (omega (arith, h)))

    pub never_same : (n : ℕ) → at + 67 * n ≤ length bits → list_any (is_unbalanced (bits ++ more) at) (range_with_len 0 n) ≡ list_any (is_unbalanced bits at) (range_with_len 0 n)
    never_same n h = anys_same (is_unbalanced (bits ++ more) at) (is_unbalanced bits at) 0 n (λ k le lt. unbalanced k (omega (arith, lt, h)))

    event_same : (r : ℕ) → at + 67 * r + 67 ≤ length bits → (kind : EventKind) → has_event s (bits ++ more) at r kind ≡ has_event s bits at r kind
    event_same r h kinds.Bad = ap is_bad (at_same s.metaframe bits more (at + 67 * r) h)
    event_same r h kinds.Sync = ap (λ b. (r % s.metaframe == 0) && b) (wrong_sync r h)
    event_same r h kinds.State = wrong_state r h
    event_same r h kinds.Skip = ap (λ w. is_skip_place (role_of s (r % s.metaframe)) && is_no_skip w) (received_same r h)
    event_same r h kinds.Diagnostic = diagnostic r h
    event_same r h kinds.Health = health r h
    event_same r h kinds.Balance =
        ap (λ b. b && not (list_any (is_unbalanced (bits ++ more) at) (range_with_len 0 r))) (unbalanced r h)
        ∙ ap (λ b. is_unbalanced bits at r && not b) (never_same r (omega (arith, h)))
    event_same r h kinds.Lock = refl
    event_same r h kinds.LostHeaders = refl
    event_same r h kinds.LostSync = refl
    event_same r h kinds.LostState = refl
    event_same r h kinds.Unframed = refl

    word_same : (r : ℕ) → at + 67 * r + 67 ≤ length bits → word_events s (bits ++ more) at r ≡ word_events s bits at r
    unfolding word_events
    word_same r h = ap (λ ks. map (λ (kind : EventKind). event (at + 67 * r) kind) ks) (filters_same (has_event s (bits ++ more) at r) (has_event s bits at r) all_kinds (event_same r h))

    -- the first n words of a lock
    pub words_same : (n : ℕ) → at + 67 * n ≤ length bits → flat_map (word_events s (bits ++ more) at) (range_with_len 0 n) ≡ flat_map (word_events s bits at) (range_with_len 0 n)
    words_same n h = flat_maps_same (word_events s (bits ++ more) at) (word_events s bits at) 0 n (λ k le lt. word_same k (omega (arith, lt, h)))

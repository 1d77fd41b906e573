-- The events of a lane come in order.
use Rattle.std.proofs.Common.{ℕ, zero, suc, ◌≡◌, refl, sym, ap, ◌∙◌, subst, ◌+◌, ◌-◌, ◌*◌, ◌/◌, ◌<◌, ◌≤◌, Bool, true, false, List, [], ◌∷◌, ◌++◌, length, map, filter, flat_map, arith, Option, Some, None, inl, inr}
use Rattle.std.specs.Prelude.{All, AllPairs}
use Rattle.std.specs.List.{range_with_len}
use Rattle.std.proofs.lemmas.List.{append-nil}
use Rattle.std.proofs.lemmas.List.Elements.{All-append, All-cons, All-nil}
use Rattle.std.proofs.lemmas.List.Kept.{AllPairs-cons}
use Rattle.lk_base.specs.Link.{Settings}
use Rattle.lane_model.proofs.Numbers.{split}
use Rattle.lock_model.specs.Locks.{Attempt, AttemptsFrom, Loss, further, loss_at, next_search}
use Rattle.lock_model.specs.declared.types.LostWhy.{LostWhy}
use Rattle.lock_model.specs.declared.types.LostWhy.TheVariants as whys
use Rattle.lock_model.proofs.Prefixes.{loss_here}
use Rattle.lane_events.specs.declared.types.EventKind.{EventKind}
use Rattle.lane_events.specs.declared.types.LaneEvent.{LaneEvent}
use Rattle.lane_events.specs.EventLaw.{EventsRise, IsBefore, kind_place}
use Rattle.lane_events.specs.Events.{all_kinds, has_event, lane_events, losing_events, loss_kind, word_events}
use Rattle.lane_events.proofs.Grow.{own, words_more}
use Rattle.lane_events.proofs.OneMore.{Declared, LostOr, declared_here, lost_behind}

-- events from bit `low` on and before bit `high`, each before those after it
Rise : ℕ → ℕ → List LaneEvent → Type 0
Rise low high [] = Unit {0}
Rise low high (x ∷ xs) = (low ≤ x.bit) × (x.bit < high) × All (IsBefore x) xs × Rise low high xs

-- events of one bit, of kinds from place n on
Single : ℕ → ℕ → List LaneEvent → Type 0
Single bit n [] = Unit {0}
Single bit n (x ∷ xs) = (x.bit ≡ bit) × (n ≤ kind_place x.kind) × Single bit n xs

all_append : (P : LaneEvent → Type 0) (xs ys : List LaneEvent) → All P xs → All P ys → All P (xs ++ ys)
all_append P xs ys h k = All-append P xs ys h k

after_all : (x : LaneEvent) (mid high : ℕ) (ys : List LaneEvent) → x.bit < mid → Rise mid high ys → All (IsBefore x) ys
unfolding Rise
after_all x mid high [] lt h = All-nil (IsBefore x)
after_all x mid high (y ∷ ys) lt h = let le = h.0 in All-cons (IsBefore x) y ys (inl (omega (arith, lt, le))) (after_all x mid high ys lt h.3)

wider : (low high lower higher : ℕ) (xs : List LaneEvent) → lower ≤ low → high ≤ higher → Rise low high xs → Rise lower higher xs
unfolding Rise
wider low high lower higher [] a b h = tt
wider low high lower higher (x ∷ xs) a b h = let le = h.0 in let lt = h.1 in (omega (arith, le, a), omega (arith, lt, b), h.2, wider low high lower higher xs a b h.3)

rise_append : (low mid high : ℕ) (xs ys : List LaneEvent) → low ≤ mid → mid ≤ high → Rise low mid xs → Rise mid high ys → Rise low high (xs ++ ys)
unfolding Rise
rise_append low mid high [] ys a b h k = wider mid high low high ys a (omega arith) k
rise_append low mid high (x ∷ xs) ys a b h k =
    let lt = h.1 in
    (h.0, omega (arith, lt, b), all_append (IsBefore x) xs ys h.2 (after_all x mid high ys lt k), rise_append low mid high xs ys a b h.3 k)

pairs : (low high : ℕ) (xs : List LaneEvent) → Rise low high xs → AllPairs IsBefore xs
unfolding Rise
pairs low high [] h = no_pairs
  where
    no_pairs : AllPairs IsBefore []
    no_pairs i j d lt h = absurd (omega (arith, h))
pairs low high (x ∷ xs) h = AllPairs-cons IsBefore x xs h.2 (pairs low high xs h.3)

-- ---- the events of one word

-- kinds from place n on, each before the next
Places : ℕ → List EventKind → Type 0
Places n [] = Unit {0}
Places n (k ∷ ks) = (n ≤ kind_place k) × Places (kind_place k + 1) ks

places : Places 0 all_kinds
unfolding Places
places = (omega arith, (omega arith, (omega arith, (omega arith, (omega arith, (omega arith, (omega arith, (omega arith, (omega arith, (omega arith, (omega arith, (omega arith, tt))))))))))))

later_places : (n m : ℕ) (ks : List EventKind) → n ≤ m → Places m ks → Places n ks
unfolding Places
later_places n m [] le h = tt
later_places n m (k ∷ ks) le h = let p = h.0 in (omega (arith, le, p), h.1)

abbrev event : ℕ → EventKind → LaneEvent
event bit kind = record { bit = bit; kind = kind }

single : (p : EventKind → Bool) (bit n : ℕ) (ks : List EventKind) → Places n ks → Single bit n (map (event bit) (filter p ks))
unfolding Places Single
single p bit n [] h = tt
single p bit n (k ∷ ks) h = let le = h.0 in split {b = p k}
    (λ t. rw t (refl, le, single p bit n ks (later_places n (kind_place k + 1) ks (omega (arith, le)) h.1)))
    (λ f. rw f (single p bit n ks (later_places n (kind_place k + 1) ks (omega (arith, le)) h.1)))

before_single : (bit : ℕ) (k : EventKind) (xs : List LaneEvent) → Single bit (kind_place k + 1) xs → All (IsBefore (event bit k)) xs
unfolding Single
before_single bit k [] h = All-nil (IsBefore (event bit k))
before_single bit k (x ∷ xs) h = let e = h.0 in let lt = h.1 in All-cons (IsBefore (event bit k)) x xs (inr (sym e, omega (arith, lt))) (before_single bit k xs h.2)

kinds_rise : (p : EventKind → Bool) (bit n : ℕ) (ks : List EventKind) → Places n ks → Rise bit (bit + 1) (map (event bit) (filter p ks))
unfolding Places Rise
kinds_rise p bit n [] h = tt
kinds_rise p bit n (k ∷ ks) h = split {b = p k}
    (λ t. rw t (omega arith, omega arith, before_single bit k (map (event bit) (filter p ks)) (single p bit (kind_place k + 1) ks h.1), kinds_rise p bit (kind_place k + 1) ks h.1))
    (λ f. rw f (kinds_rise p bit (kind_place k + 1) ks h.1))

word_rise : (s : Settings) (bits : List Bool) (at r : ℕ) → Rise (at + 67 * r) (at + 67 * r + 1) (word_events s bits at r)
unfolding word_events
word_rise s bits at r = kinds_rise (has_event s bits at r) (at + 67 * r) 0 all_kinds places

none_rise : (low high : ℕ) → Rise low high []
unfolding Rise
none_rise low high = tt

one_rise : (low high bit : ℕ) (kind : EventKind) → low ≤ bit → bit < high → Rise low high (event bit kind ∷ [])
unfolding Rise
one_rise low high bit kind a b = (a, b, All-nil (IsBefore (event bit kind)), tt)

-- the first n words of a lock
words_rise : (s : Settings) (bits : List Bool) (at n : ℕ) → Rise at (at + 67 * n) (flat_map (word_events s bits at) (range_with_len 0 n))
words_rise s bits at zero = none_rise at (at + 67 * 0)
words_rise s bits at (suc n) =
    let e : n + 1 ≡ suc n = omega arith in
    subst (λ (es : List LaneEvent). Rise at (at + 67 * suc n) es) (sym (words_more (word_events s bits at) n) ∙ ap (λ k. flat_map (word_events s bits at) (range_with_len 0 k)) e)
    (rise_append at (at + 67 * n) (at + 67 * suc n) (flat_map (word_events s bits at) (range_with_len 0 n)) (word_events s bits at n) (omega arith) (omega arith)
    (words_rise s bits at n) (wider (at + 67 * n) (at + 67 * n + 1) (at + 67 * n) (at + 67 * suc n) (word_events s bits at n) (omega arith) (omega arith) (word_rise s bits at n)))

-- ---- all attempts

module _ (s : Settings) (bits : List Bool) where
  AllRise : List Attempt → Type 0
  AllRise rest = (first : ℕ) → first ≤ length bits + 1 → AttemptsFrom s.metaframe bits (Some first) rest → Rise first (length bits + 1) (lane_events s bits rest)

  one_more : (why : LostWhy) → further why ≤ 1
  one_more whys.Headers = omega arith
  one_more whys.Unframed = omega arith
  one_more whys.Sync = omega arith
  one_more whys.State = omega arith

  lost_rise : (p : ℕ) (o : Option ℕ) (loss : Loss) → Declared s.metaframe bits p o → ((d : ℕ) → o ≡ Some d → d < loss.word) →
      Rise p (p + 67 * (loss.word + 1) + further loss.why) (own s bits p o (Some loss))
  lost_rise p None loss is behind = one_rise p (p + 67 * (loss.word + 1) + further loss.why) (p + 67 * loss.word) (loss_kind false loss.why) (omega arith) (omega arith)
  lost_rise p (Some d) loss is behind =
      let lt = behind d refl in
      rise_append p (p + 67 * loss.word) (p + 67 * (loss.word + 1) + further loss.why) (flat_map (word_events s bits (p + 67 * d)) (range_with_len 0 (loss.word - d))) (losing_events p true (Some loss)) (omega arith) (omega arith)
      (wider (p + 67 * d) (p + 67 * d + 67 * (loss.word - d)) p (p + 67 * loss.word) (flat_map (word_events s bits (p + 67 * d)) (range_with_len 0 (loss.word - d))) (omega arith) (omega (arith, lt)) (words_rise s bits (p + 67 * d) (loss.word - d)))
      (one_rise (p + 67 * loss.word) (p + 67 * (loss.word + 1) + further loss.why) (p + 67 * loss.word) (loss_kind true loss.why) (omega arith) (omega arith))

  rise_step : (first p : ℕ) (o : Option ℕ) (l : Option Loss) (rest : List Attempt) → AllRise rest → first ≤ p → Declared s.metaframe bits p o → LostOr s.metaframe bits p o l →
      AttemptsFrom s.metaframe bits (next_search p l) rest → Rise first (length bits + 1) (own s bits p o l ++ lane_events s bits rest)
  unfolding AllRise
  rise_step first p o None (a ∷ rest) all le is lost h = absurd h
  rise_step first p None None [] all le is lost h = none_rise first (length bits + 1)
  rise_step first p (Some d) None [] all le is lost h =
      let there = declared_here s.metaframe bits p d is in
      subst (λ (es : List LaneEvent). Rise first (length bits + 1) es) (sym (append-nil _ ∙ append-nil _))
      (wider (p + 67 * d) (p + 67 * d + 67 * ((length bits - (p + 67 * d)) / 67)) first (length bits + 1) _ (omega (arith, le)) (omega (arith, there)) (words_rise s bits (p + 67 * d) ((length bits - (p + 67 * d)) / 67)))
  rise_step first p o (Some loss) rest all le is lost h =
      let there = loss_here s.metaframe bits [] p o loss.word loss.why lost.why in
      let most = one_more loss.why in
      let next = p + 67 * (loss.word + 1) + further loss.why in
      rise_append first next (length bits + 1) (own s bits p o (Some loss)) (lane_events s bits rest) (omega (arith, le)) (omega (arith, there, most))
      (wider p next first next (own s bits p o (Some loss)) le (omega arith) (lost_rise p o loss is (λ d e. lost_behind s.metaframe bits p d loss.word loss.why (declares d e))))
      (all next (omega (arith, there, most)) h)
    where
      declares : (d : ℕ) → o ≡ Some d → loss_at s.metaframe bits p (Some d) loss.word ≡ Some loss.why
      declares d e = ap (λ x. loss_at s.metaframe bits p x loss.word) (sym e) ∙ lost.why

  all_rise : (attempts : List Attempt) → AllRise attempts
  unfolding AllRise
  all_rise [] first le h = none_rise first (length bits + 1)
  all_rise (a ∷ rest) first le h = rise_step first a.starts a.declared a.lost rest (all_rise rest) h.0.0.0 h.1.declared h.1.lost h.2

  pub in_order : (attempts : List Attempt) → AttemptsFrom s.metaframe bits (Some 0) attempts → AllPairs IsBefore (lane_events s bits attempts)
  unfolding AllRise
  in_order attempts h = pairs 0 (length bits + 1) (lane_events s bits attempts) (all_rise attempts 0 (omega arith) h)

pub events_rise : EventsRise
events_rise s bits events k = subst (λ (es : List LaneEvent). AllPairs IsBefore es) (sym k.events_are) (in_order s bits k.attempts k.are)

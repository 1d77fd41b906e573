-- The ring after a change, and the line of the channels at its places.
use Rattle.std.proofs.Common.{◌≡◌, ◌≢◌, inl, inr, ℕ, suc, ◌+◌, ◌<◌, Bool, true, false, not, List, [], ◌∷◌, ◌++◌, length, filter, take, ◌==◌, nat_eq, get_or, All, Contains, if◌then◌else◌, refl, sym, ap, subst, ◌∙◌, arith}
use Rattle.std.specs.List.{AllPairs}
use Rattle.std.proofs.lemmas.Bool.Decides.{nat_tests}
use Rattle.std.proofs.lemmas.Bool.{cases_eq, cases_lt}
use Rattle.std.proofs.lemmas.List.{get_or-set_same, get_or_past, get_or_default, get_or-map, get_or-take, map-append, length-map, take_more, length-take-le}
use Rattle.std.proofs.lemmas.List.Elements.{filter-append}
use Rattle.calendar.proofs.States.{first, rest}
use Rattle.lk_index_lists.specs.Held.{Held, StandsIn, IsLinked, IsApart, without, with_list}
use Rattle.burst_scheduler.specs.Ring.{ring_list, channels_at, places_of}
use Rattle.burst_scheduler.proofs.Lines.{none_in, in_cases}

-- ---- one list

-- a node that is in a list is in the only one
pub only_list : (lists : List (List ℕ)) (l node : ℕ) → length lists ≡ 1 → StandsIn lists l node → l ≡ 0
only_list lists l node one h = elim (cases_lt l 1) [
  | inl b ↦ omega arith
  | inr past ↦ absurd (none_in node (subst (λ xs. Contains xs node) (get_or_past lists l [] (omega arith)) h))
]

pub in_ring : (ring : Held) (node : ℕ) → length ring.lists ≡ 1 → IsLinked ring.lists node → Contains (ring_list ring) node
in_ring ring node one h = subst (λ l. StandsIn ring.lists l node) (only_list ring.lists h.0 node one h.1) h.1

-- what the ring holds where its list is another one
pub now_holds : (old new : Held) (xs : List ℕ) → length old.lists ≡ 1 → new ≡ with_list old 0 xs → ring_list new ≡ xs
now_holds old new xs one is = ap ring_list is ∙ get_or-set_same old.lists 0 xs [] (omega arith)

pub listed_of : (ring : Held) → IsApart ring → All (λ p. p < ring.nodes) (ring_list ring)
listed_of ring apart i d h = subst (λ n. n < ring.nodes) (get_or_default (ring_list ring) i 0 d h) (apart.known 0 i h)

-- a list without a node that is not in it
pub not_there : (node : ℕ) (xs : List ℕ) → (Contains xs node → ⊥) → without node xs ≡ xs
not_there node [] h = refl
not_there node (x ∷ xs) h =
    let other : nat_eq x node ≡ false = elim (cases_eq x node) [ inl e ↦ absurd (h (0, omega arith, e)) | inr ne ↦ grind (arith, nat_tests) ] in
    rw other (ap (λ ys. x ∷ ys) (not_there node xs (λ k. h (suc k.0, omega (arith, k.1), k.2))))

-- a node that is in no list is not in the ring
pub not_linked : (ring : Held) (node : ℕ) → (IsLinked ring.lists node → ⊥) → without node (ring_list ring) ≡ ring_list ring
not_linked ring node never = not_there node (ring_list ring) (λ h. never (0, h))

-- ---- the channels at the places

module _ (channels : List ℕ) (place : ℕ) (distinct : AllPairs (λ (x y : ℕ). x ≡ y → ⊥) channels) (below : place < length channels) where
  -- another place has another channel
  pub apart_at : (p : ℕ) → p < length channels → p ≢ place → get_or channels p 0 ≢ get_or channels place 0
  apart_at p h ne e = elim (cases_lt p place) [
    | inl l ↦ distinct p place 0 l below e
    | inr g ↦ distinct place p 0 (omega arith) h (sym e)
  ]

  pub without_at : (xs : List ℕ) → All (λ p. p < length channels) xs → channels_at channels (without place xs) ≡ filter (λ c. not (c == get_or channels place 0)) (channels_at channels xs)
  without_at [] h = refl
  without_at (x ∷ xs) h = elim (cases_eq x place) [
    | inl e ↦ (
        let here : nat_eq x place ≡ true = grind (arith, nat_tests) in
        let named : get_or channels x 0 ≡ get_or channels place 0 = ap (λ p. get_or channels p 0) e in
        let same : nat_eq (get_or channels x 0) (get_or channels place 0) ≡ true = grind (arith, nat_tests) in
        rw (here, same) (without_at xs (rest (λ p. p < length channels) x xs h)))
    | inr ne ↦ (
        let there : nat_eq x place ≡ false = grind (arith, nat_tests) in
        let named : get_or channels x 0 ≢ get_or channels place 0 = apart_at x (first (λ p. p < length channels) x xs h) ne in
        let other : nat_eq (get_or channels x 0) (get_or channels place 0) ≡ false = grind (arith, nat_tests) in
        rw (there, other) (ap (λ cs. get_or channels x 0 ∷ cs) (without_at xs (rest (λ p. p < length channels) x xs h))))
  ]

  pub relinked : (channel : ℕ) → get_or channels place 0 ≡ channel → (xs ys : List ℕ) (stays : Bool) → All (λ p. p < length channels) xs → ys ≡ without place xs ++ (if stays then place ∷ [] else [])
      → channels_at channels ys ≡ filter (λ c. not (c == channel)) (channels_at channels xs) ++ (if stays then channel ∷ [] else [])
  relinked channel named xs ys stays h is = subst (λ (n : ℕ). channels_at channels ys ≡ filter (λ c. not (c == n)) (channels_at channels xs) ++ (if stays then n ∷ [] else [])) named (
      ap (channels_at channels) is ∙ map-append (λ p. get_or channels p 0) (without place xs) (if stays then place ∷ [] else [])
      ∙ ap (λ cs. cs ++ channels_at channels (if stays then place ∷ [] else [])) (without_at xs h)
      ∙ ap (λ cs. filter (λ c. not (c == get_or channels place 0)) (channels_at channels xs) ++ cs) (by stays))
    where
      by : (b : Bool) → channels_at channels (if b then place ∷ [] else []) ≡ (if b then get_or channels place 0 ∷ [] else [])
      by true = refl
      by false = refl

-- ---- those that a test keeps, and the channels at places

pub filter_in : (test : ℕ → Bool) (xs : List ℕ) (x : ℕ) → Contains xs x → test x ≡ true → Contains (filter test xs) x
filter_in test [] x h t = absurd (none_in x h)
filter_in test (y ∷ xs) x h t = elim (in_cases y x xs h) [
  | inl e ↦ (let here : test y ≡ true = ap test e ∙ t in rw here (0, omega arith, e))
  | inr i ↦ add (test y) (filter_in test xs x i t)
]
  where
    add : (b : Bool) → Contains (filter test xs) x → Contains (if b then y ∷ filter test xs else filter test xs) x
    add true k = (suc k.0, omega (arith, k.1), k.2)
    add false k = k

pub filter_out : (test : ℕ → Bool) (xs : List ℕ) (x : ℕ) → Contains (filter test xs) x → Contains xs x × (test x ≡ true)
filter_out test [] x h = absurd (none_in x h)
filter_out test (y ∷ xs) x h = by (test y) refl h (λ k. let r = filter_out test xs x k in ((suc r.0.0, omega (arith, r.0.1), r.0.2), r.1))
  where
    by : (b : Bool) → test y ≡ b → Contains (if b then y ∷ filter test xs else filter test xs) x → (Contains (filter test xs) x → Contains (y ∷ xs) x × (test x ≡ true)) → Contains (y ∷ xs) x × (test x ≡ true)
    by true e k later = elim (in_cases y x (filter test xs) k) [ inl z ↦ ((0, omega arith, z), ap test (sym z) ∙ e) | inr i ↦ later i ]
    by false e k later = later k

pub at_place : (channels places : List ℕ) (c : ℕ) → Contains (channels_at channels places) c → (p : ℕ) × Contains places p × (get_or channels p 0 ≡ c)
at_place channels [] c h = absurd (none_in c h)
at_place channels (x ∷ xs) c h = elim (in_cases (get_or channels x 0) c (channels_at channels xs) h) [
  | inl e ↦ (x, (0, omega arith, refl), e)
  | inr i ↦ (let r = at_place channels xs c i in (r.0, (suc r.1.0, omega (arith, r.1.1), r.1.2), r.2))
]

pub place_at : (channels places : List ℕ) (p : ℕ) → Contains places p → Contains (channels_at channels places) (get_or channels p 0)
place_at channels [] p h = absurd (none_in p h)
place_at channels (x ∷ xs) p h = elim (in_cases x p xs h) [
  | inl e ↦ (0, omega arith, ap (λ n. get_or channels n 0) e)
  | inr i ↦ (let r = place_at channels xs p i in (suc r.0, omega (arith, r.1), r.2))
]

-- one place more of those that a test keeps
pub kept_more : (test : ℕ → Bool) (xs : List ℕ) (x : ℕ) → filter test (xs ++ x ∷ []) ≡ filter test xs ++ (if test x then x ∷ [] else [])
kept_more test xs x = filter-append test xs (x ∷ [])

pub place_of_pair : (order : List (ℕ × ℕ)) (i : ℕ) → i < length order → get_or (places_of order) i 0 ≡ (get_or order i (0, 0)).1
place_of_pair order i h = get_or-map (λ (pair : ℕ × ℕ). pair.1) order i (0, 0) 0 h

pub take_place : (order : List (ℕ × ℕ)) (i : ℕ) → i < length order → take (i + 1) (places_of order) ≡ take i (places_of order) ++ (get_or order i (0, 0)).1 ∷ []
take_place order i h = take_more (places_of order) i 0 (let n : length (places_of order) ≡ length order = length-map order (λ (pair : ℕ × ℕ). pair.1) in omega (arith, h, n)) ∙ ap (λ p. take i (places_of order) ++ p ∷ []) (place_of_pair order i h)

-- a place is none of those before it
pub not_before : (order : List (ℕ × ℕ)) (i : ℕ) → i < length order → AllPairs (λ (p q : ℕ). p ≡ q → ⊥) (places_of order) → Contains (take i (places_of order)) (get_or order i (0, 0)).1 → ⊥
not_before order i h distinct k =
    let n : length (places_of order) ≡ length order = length-map order (λ (pair : ℕ × ℕ). pair.1) in
    let long : length (take i (places_of order)) ≡ i = length-take-le i (places_of order) (omega (arith, h, n)) in
    let j : ℕ = k.0 in
    let early : j < i = (let b = k.1 in omega (arith, b, long)) in
    let x : ℕ = (get_or order i (0, 0)).1 in
    distinct j i 0 early (omega (arith, h, n)) (get_or_default (places_of order) j 0 x (omega (arith, early, h, n)) ∙ sym (get_or-take i (places_of order) j x early) ∙ k.2 ∙ sym (place_of_pair order i h))

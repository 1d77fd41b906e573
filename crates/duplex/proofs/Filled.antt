-- The channels whose queues are not empty.
use Rattle.std.proofs.Common.{◌≡◌, ◌≢◌, inl, inr, ℕ, zero, suc, ◌+◌, ◌-◌, ◌<◌, ◌≤◌, Bool, true, List, [], ◌∷◌, ◌++◌, length, replicate, take, filter, get_or, nat_lt, Contains, refl, sym, ap, ◌∙◌, subst, arith, ltb-true, lt-ltb}
use Rattle.std.specs.List.{AllPairs, range_with_len}
use Rattle.std.proofs.Math.ListN.{set}
use Rattle.std.proofs.lemmas.Bool.{cases_lt, cases_eq}
use Rattle.std.proofs.lemmas.List.{get_or-set_same, get_or-set_other, get_or_past, get_or_default, get_or-take, length-set, length_push, length-take-le, take_more, drop_more}
use Rattle.std.proofs.lemmas.List.Elements.{Contains-get_or, Contains-push, Contains-push_cases, Contains-append_left}
use Rattle.std.proofs.lemmas.List.Filters.{FiltersInPlace}
use Rattle.std.proofs.lemmas.List.FromFn.{length-range_with_len, get_or-range_with_len}
use Rattle.std.proofs.lemmas.List.Kept.{AllPairs-filter}
use Rattle.std.proofs.lemmas.List.Quantifiers.{all_pairs_push}
use Rattle.std.proofs.Math.Seq.{take-suc-set}
use Rattle.duplex.specs.Queues.{empty_queue, queue_at, drained_by, AreFilled}
use Rattle.duplex.specs.declared.queue.ArrivalQueue.{ArrivalQueue}
use Rattle.burst_scheduler.proofs.Rings.{filter_in, filter_out}
use Rattle.burst_scheduler.proofs.Lines.{at_most}

-- ---- lists of distinct numbers

-- distinct numbers below n are at most n
pub at_most_below : (xs : List ℕ) (n : ℕ) → AllPairs (λ (x y : ℕ). x ≢ y) xs → ((c : ℕ) → Contains xs c → c < n) → length xs ≤ n
at_most_below xs n distinct below =
    let long = length-range_with_len 0 n in
    let most = at_most xs (range_with_len 0 n) distinct (λ c i. let b = below c i in (c, omega (arith, b, long), get_or-range_with_len 0 n c c b ∙ (let e : 0 + c ≡ c = omega arith in e))) in
    omega (arith, most, long)

-- ---- a queue that is not empty has a number

some_within : (queues : List ArrivalQueue) (c : ℕ) → 1 ≤ (queue_at queues c).words → c < length queues
some_within queues c some = elim (cases_lt c (length queues)) [
  | inl below ↦ below
  | inr past ↦ (let none : (queue_at queues c).words ≡ 0 = ap (λ (q : ArrivalQueue). q.words) (get_or_past queues c empty_queue past) in absurd (omega (arith, some, none)))
]

-- there is room for one that was empty
pub room_for : (queues : List ArrivalQueue) (filled : List ℕ) (count channel : ℕ) → AreFilled queues filled count → length filled ≡ length queues → channel < length queues → (queue_at queues channel).words ≡ 0 → count < length filled
room_for queues filled count channel f same within empty =
    let line : List ℕ = take count filled in
    let long : length line ≡ count = length-take-le count filled f.within in
    let outside = λ (k d : ℕ) (h : k < length line) (e : get_or line k d ≡ channel). (
    let some : 1 ≤ (queue_at queues (get_or line k d)).words = f.only (get_or line k d) (Contains-get_or line k d h) in
    let none : (queue_at queues (get_or line k d)).words ≡ 0 = ap (λ c. (queue_at queues c).words) e ∙ empty in
    let bad : ⊥ = absurd (omega (arith, some, none)) in bad) in
    let most = at_most_below (line ++ channel ∷ []) (length queues) (all_pairs_push (λ (x y : ℕ). x ≢ y) line channel f.distinct outside)
    (λ c i. elim (Contains-push_cases line channel c i) [
      | inl in_line ↦ some_within queues c (f.only c in_line)
      | inr e ↦ subst (λ k. k < length queues) e within
    ]) in
    let more : length (line ++ channel ∷ []) ≡ length line + 1 = length_push line channel in
    omega (arith, most, more, long, same)

-- ---- a word joins a queue

module _ (queues : List ArrivalQueue) (filled : List ℕ) (count channel : ℕ) (queue : ArrivalQueue) (f : AreFilled queues filled count) (within : channel < length queues) (some : 1 ≤ queue.words) where
  abbrev changed : List ArrivalQueue
  changed = set queues channel queue

  here : queue_at changed channel ≡ queue
  here = get_or-set_same queues channel queue empty_queue within

  other : (c : ℕ) → c ≢ channel → queue_at changed c ≡ queue_at queues c
  other c ne = get_or-set_other queues channel c queue empty_queue ne

  -- one that was not empty
  pub filled_still : 1 ≤ (queue_at queues channel).words → AreFilled changed filled count
  filled_still was = record {
    within = f.within;
    only = λ c i. elim (cases_eq c channel) [
      | inl e ↦ subst (λ k. 1 ≤ (queue_at changed k).words) (sym e) (subst (λ (q : ArrivalQueue). 1 ≤ q.words) (sym here) some)
      | inr ne ↦ subst (λ (q : ArrivalQueue). 1 ≤ q.words) (sym (other c ne)) (f.only c i)
    ];
    all = λ c h. elim (cases_eq c channel) [
      | inl e ↦ subst (λ k. Contains (take count filled) k) (sym e) (f.all channel was)
      | inr ne ↦ f.all c (subst (λ (q : ArrivalQueue). 1 ≤ q.words) (other c ne) h)
    ];
    distinct = f.distinct;
  }

  -- one that was empty
  pub filled_more : (queue_at queues channel).words ≡ 0 → count < length filled → AreFilled changed (set filled count channel) (count + 1)
  filled_more empty room =
      let line : List ℕ = take count filled in
      let more : take (count + 1) (set filled count channel) ≡ line ++ channel ∷ [] = (let e : count + 1 ≡ suc count = omega arith in rw e (take-suc-set filled count channel room)) in
      let outside = λ (k d : ℕ) (h : k < length line) (e : get_or line k d ≡ channel). (
      let is : 1 ≤ (queue_at queues (get_or line k d)).words = f.only (get_or line k d) (Contains-get_or line k d h) in
      let none : (queue_at queues (get_or line k d)).words ≡ 0 = ap (λ c. (queue_at queues c).words) e ∙ empty in
      let bad : ⊥ = absurd (omega (arith, is, none)) in bad) in
      record {
        within = (let n = length-set filled count channel in omega (arith, n, room));
        only = λ c i. elim (cases_eq c channel) [
          | inl e ↦ subst (λ k. 1 ≤ (queue_at changed k).words) (sym e) (subst (λ (q : ArrivalQueue). 1 ≤ q.words) (sym here) some)
          | inr ne ↦ elim (Contains-push_cases line channel c (subst (λ (xs : List ℕ). Contains xs c) more i)) [
            | inl in_line ↦ subst (λ (q : ArrivalQueue). 1 ≤ q.words) (sym (other c ne)) (f.only c in_line)
            | inr e ↦ absurd (ne (sym e))
          ]
        ];
        all = λ c h. subst (λ (xs : List ℕ). Contains xs c) (sym more) (elim (cases_eq c channel) [
          | inl e ↦ subst (λ k. Contains (line ++ channel ∷ []) k) (sym e) (Contains-push line channel)
          | inr ne ↦ Contains-append_left line (channel ∷ []) c (f.all c (subst (λ (q : ArrivalQueue). 1 ≤ q.words) (other c ne) h))
        ]);
        distinct = subst (AllPairs (λ (x y : ℕ). x ≢ y)) (sym more) (all_pairs_push (λ (x y : ℕ). x ≢ y) line channel f.distinct outside);
      }

-- ---- the queues that are not empty lose a word, in the order of their list

-- those of the first i of the list did, and no other queue changed
pub record HasDrained (old now : List ArrivalQueue) (filled : List ℕ) (i : ℕ) : Type 0 where
  pub long : length now ≡ length old
  pub done : (c : ℕ) → Contains (take i filled) c → queue_at now c ≡ drained_by true (queue_at old c)
  pub left : (c : ℕ) → (Contains (take i filled) c → ⊥) → queue_at now c ≡ queue_at old c

-- a queue keeps a word
abbrev pub keeps_one : List ArrivalQueue → ℕ → Bool
keeps_one queues channel = nat_lt 1 (queue_at queues channel).words

module _ (old now : List ArrivalQueue) (filled : List ℕ) (count i : ℕ) (f : AreFilled old filled count) (below : i < count) (h : HasDrained old now filled i) where
  inside : i < length filled
  inside = let w = f.within in omega (arith, w, below)

  abbrev channel : ℕ
  channel = get_or filled i 0

  more : take (i + 1) filled ≡ take i filled ++ channel ∷ []
  more = take_more filled i 0 inside

  -- the next one stands after them, and its queue is still to be drained
  not_yet : Contains (take i filled) channel → ⊥
  not_yet at =
      let k : ℕ = at.0 in
      let long : length (take i filled) ≡ i = length-take-le i filled (omega (arith, inside)) in
      let lower : k < i = omega (arith, at.1, long) in
      let first : get_or (take count filled) k channel ≡ channel = get_or-take count filled k channel (omega (arith, lower, below)) ∙ sym (get_or-take i filled k channel lower) ∙ at.2 in
      let second : get_or (take count filled) i channel ≡ channel = get_or-take count filled i channel below ∙ get_or_default filled i channel 0 inside in
      let long_line : length (take count filled) ≡ count = length-take-le count filled f.within in
      f.distinct k i channel lower (omega (arith, below, long_line)) (first ∙ sym second)

  pub next_is : queue_at now channel ≡ queue_at old channel
  next_is = h.left channel not_yet

  pub next_some : 1 ≤ (queue_at now channel).words
  next_some =
      let second : get_or (take count filled) i channel ≡ channel = get_or-take count filled i channel below ∙ get_or_default filled i channel 0 inside in
      let long_line : length (take count filled) ≡ count = length-take-le count filled f.within in
      subst (λ (q : ArrivalQueue). 1 ≤ q.words) (sym next_is) (f.only channel (i, omega (arith, below, long_line), second))

  pub drained_one : HasDrained old (set now channel (drained_by true (queue_at now channel))) filled (i + 1)
  drained_one =
      let q : ArrivalQueue = drained_by true (queue_at now channel) in
      let within : channel < length now = some_within now channel next_some in
      let same : queue_at (set now channel q) channel ≡ drained_by true (queue_at old channel) = get_or-set_same now channel q empty_queue within ∙ ap (drained_by true) next_is in
      let rest = λ (c : ℕ) (ne : c ≢ channel). get_or-set_other now channel c q empty_queue ne in
      record {
        long = length-set now channel q ∙ h.long;
        done = λ c at. elim (cases_eq c channel) [
          | inl e ↦ subst (λ k. queue_at (set now channel q) k ≡ drained_by true (queue_at old k)) (sym e) same
          | inr ne ↦ elim (Contains-push_cases (take i filled) channel c (subst (λ (xs : List ℕ). Contains xs c) more at)) [
            | inl earlier ↦ rest c ne ∙ h.done c earlier
            | inr e ↦ absurd (ne (sym e))
          ]
        ];
        left = λ c out. elim (cases_eq c channel) [
          | inl e ↦ absurd (out (subst (λ (xs : List ℕ). Contains xs c) (sym more) (subst (λ k. Contains (take i filled ++ channel ∷ []) k) (sym e) (Contains-push (take i filled) channel))))
          | inr ne ↦ rest c ne ∙ h.left c (λ earlier. out (subst (λ (xs : List ℕ). Contains xs c) (sym more) (Contains-append_left (take i filled) (channel ∷ []) c earlier)))
        ];
      }

-- it is read from the list as it was
pub next_channel : (filled line : List ℕ) (kept i channel : ℕ) (p : ℕ → Bool) → FiltersInPlace p filled line kept i → i < length filled → channel ≡ get_or line i channel → channel ≡ get_or filled i 0
next_channel filled line kept i channel p h below is =
    let long = h.long in
    is ∙ ap (λ (xs : List ℕ). get_or xs 0 channel) (sym (drop_more line i channel (omega (arith, long, below))) ∙ h.rest ∙ drop_more filled i channel below) ∙ get_or_default filled i channel 0 below

-- an empty queue loses nothing
nothing_lost : (queue : ArrivalQueue) → queue.words ≡ 0 → queue ≡ drained_by true queue
nothing_lost queue none = let e : queue.words ≡ queue.words - 1 = omega (arith, none) in ap (λ n. let q : ArrivalQueue = record { words = n; peak = queue.peak } in q) e

module _ (old now : List ArrivalQueue) (filled : List ℕ) (count : ℕ) (f : AreFilled old filled count) (h : HasDrained old now filled count) where
  pub all_drained : (c : ℕ) → queue_at now c ≡ drained_by true (queue_at old c)
  all_drained c = elim (cases_lt 0 (queue_at old c).words) [
    | inl some ↦ h.done c (f.all c (omega (arith, some)))
    | inr none ↦ (
        let zero_words : (queue_at old c).words ≡ 0 = omega (arith, none) in
        h.left c (λ at. let some = f.only c at in absurd (omega (arith, some, zero_words))) ∙ nothing_lost (queue_at old c) zero_words)
  ]

  -- those that kept a word are the ones that are not empty
  pub filled_after : (line : List ℕ) (kept : ℕ) → FiltersInPlace (keeps_one old) filled line kept count → AreFilled now line kept
  filled_after line kept p =
      let is : take kept line ≡ filter (keeps_one old) (take count filled) = p.front in
      record {
        within = (let b = p.behind in let w = p.within in let l = p.long in omega (arith, b, w, l));
        only = λ c at.
            let r = filter_out (keeps_one old) (take count filled) c (subst (λ (xs : List ℕ). Contains xs c) is at) in
            let two : 1 < (queue_at old c).words = ltb-true 1 (queue_at old c).words r.1 in
            let e : (queue_at now c).words ≡ (queue_at old c).words - 1 = ap (λ (q : ArrivalQueue). q.words) (all_drained c) in
            omega (arith, two, e);
        all = λ c some.
            let e : (queue_at now c).words ≡ (queue_at old c).words - 1 = ap (λ (q : ArrivalQueue). q.words) (all_drained c) in
            let two : 1 < (queue_at old c).words = omega (arith, some, e) in
            subst (λ (xs : List ℕ). Contains xs c) (sym is) (filter_in (keeps_one old) (take count filled) c (f.all c (omega (arith, two))) (lt-ltb 1 (queue_at old c).words two));
        distinct = subst (AllPairs (λ (x y : ℕ). x ≢ y)) (sym is) (AllPairs-filter (λ (x y : ℕ). x ≢ y) (keeps_one old) (take count filled) f.distinct);
      }

-- ---- no queue holds a word

all_empty_at : (n c : ℕ) → get_or (replicate n empty_queue) c empty_queue ≡ empty_queue
all_empty_at zero c = refl
all_empty_at (suc n) zero = refl
all_empty_at (suc n) (suc c) = all_empty_at n c

pub all_empty : (n : ℕ) (queues : List ArrivalQueue) (c : ℕ) → queues ≡ replicate n empty_queue → queue_at queues c ≡ empty_queue
all_empty n queues c e = ap (λ (qs : List ArrivalQueue). queue_at qs c) e ∙ all_empty_at n c

pub none_filled : (queues : List ArrivalQueue) (filled : List ℕ) → ((c : ℕ) → queue_at queues c ≡ empty_queue) → AreFilled queues filled 0
none_filled queues filled empty = record {
  within = omega arith;
  only = λ c h. absurd (omega (arith, h.1));
  all = λ c some. let none : (queue_at queues c).words ≡ 0 = ap (λ (q : ArrivalQueue). q.words) (empty c) in absurd (omega (arith, some, none));
  distinct = λ i j d low high. absurd (omega (arith, high));
}

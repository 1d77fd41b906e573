-- Rows that are passed to a scheduler at their slot.
use Rattle.std.proofs.Common.{◌≡◌, ℕ, ◌+◌, ◌-◌, ◌<◌, ◌≤◌, Bool, true, false, List, [], ◌∷◌, ◌++◌, length, map, take, get_or, refl, sym, ap, subst, ◌∙◌, arith}
use Rattle.std.specs.List.{AllWithin}
use Rattle.std.specs.List.Sorted.{IsNonDecreasing}
use Rattle.std.proofs.lemmas.List.{get_or-map, length-map, take_more, get_or_default}
use Rattle.stream_model.specs.declared.rows.FlowRow.{FlowRow}
use Rattle.stream_model.specs.declared.rows.LocalRow.{LocalRow}
use Rattle.burst_scheduler.specs.Asked.{Asked, local_added, flow_added, having_local}
use Rattle.burst_scheduler.specs.Gives.{Gives}
use Rattle.burst_scheduler.specs.declared.scheduler.Scheduler.{Scheduler}
use Rattle.tx_words.specs.Driving.{having_flow, PassesFlow}

-- ---- rows in order of slot

-- rows in order, whose first is of slot n or later
pub later_from : {X : Type 0} (f : X → ℕ) (rows : List X) (k n : ℕ) → IsNonDecreasing (map f rows) → ((d : X) → k < length rows → n ≤ f (get_or rows k d)) → AllWithin (λ r. n ≤ f r) rows k (length rows)
later_from f rows k n sorted first j d low high =
    let within : j < length (map f rows) = rw length-map high in
    let here : k < length rows = omega arith in
    let rises : get_or (map f rows) k 0 ≤ get_or (map f rows) j 0 = sorted k j 0 low within in
    let at_k : get_or (map f rows) k 0 ≡ f (get_or rows k d) = get_or-map f rows k d 0 here in
    let at_j : get_or (map f rows) j 0 ≡ f (get_or rows j d) = get_or-map f rows j d 0 high in
    let low_k : n ≤ f (get_or rows k d) = first d here in
    omega arith

-- rows in order from one that is not of slot n are of later slots
pub later_behind : {X : Type 0} (f : X → ℕ) (rows : List X) (from k n : ℕ) (e : X) → IsNonDecreasing (map f rows) → AllWithin (λ r. n ≤ f r) rows from (length rows) → from ≤ k → k < length rows → (f (get_or rows k e) ≡ n → ⊥) → AllWithin (λ r. n + 1 ≤ f r) rows k (length rows)
later_behind f rows from k n e sorted later le within other =
    later_from f rows k (n + 1) sorted (λ d h.
    let low : n ≤ f (get_or rows k d) = later k d le h in
    let same : f (get_or rows k e) ≡ f (get_or rows k d) = ap f (get_or_default rows k e d h) in
    let ne : f (get_or rows k d) ≡ n → ⊥ = λ is. other (same ∙ is) in
    omega arith)

-- rows in order are of the slot of the first of them or later ones
pub later_until : {X : Type 0} (f : X → ℕ) (rows : List X) (k n : ℕ) (e : X) → IsNonDecreasing (map f rows) → AllWithin (λ r. n ≤ f r) rows k (length rows) → AllWithin (λ r. n + (f (get_or rows k e) - n) ≤ f r) rows k (length rows)
later_until f rows k n e sorted later =
    later_from f rows k (n + (f (get_or rows k e) - n)) sorted (λ d h.
    let low : n ≤ f (get_or rows k d) = later k d (omega arith) h in
    let same : f (get_or rows k e) ≡ f (get_or rows k d) = ap f (get_or_default rows k e d h) in
    omega (arith, low, same))

-- where no row is left, none is of an earlier slot than any
pub later_than_none : {X : Type 0} (f : X → ℕ) (rows : List X) (k n : ℕ) → length rows ≤ k → AllWithin (λ r. n ≤ f r) rows k (length rows)
later_than_none f rows k n h j d low high = absurd (omega arith)

-- rows of this slot or later ones are so of an earlier one
pub later_before : {X : Type 0} (f : X → ℕ) (rows : List X) (k m n : ℕ) → m ≤ n → AllWithin (λ r. n ≤ f r) rows k (length rows) → AllWithin (λ r. m ≤ f r) rows k (length rows)
later_before f rows k m n h later j d low high = let l = later j d low high in omega (arith, h, l)

-- ---- local rows

-- the local rows up to a number were passed
pub record PassedLocal (old new : Scheduler) (local : List LocalRow) (from to slot : ℕ) : Type 0 where
  pub gives : (a : Asked) → Gives old a → a.source.local ≡ take from local → slot ≡ length a.words → Gives new (having_local a (take to local))
  pub within : to ≤ length local
  pub more : from ≤ to

local_step : (a : Asked) (local : List LocalRow) (k : ℕ) (d : LocalRow) → k < length local → (get_or local k d).slot ≡ length a.words → local_added (having_local a (take k local)) (get_or local k d).channel (get_or local k d).on ≡ having_local a (take (k + 1) local)
local_step a local k d h e =
    let row : LocalRow = get_or local k d in
    let made : record { slot = length a.words; channel = row.channel; on = row.on } ≡ row = ap (λ n. record { slot = n; channel = row.channel; on = row.on }) (sym e) in
    ap (having_local a) (ap (λ (r : LocalRow). take k local ++ r ∷ []) made ∙ sym (take_more local k d h))

pub one_local : (old mid new : Scheduler) (local : List LocalRow) (from to slot : ℕ) (d : LocalRow) → PassedLocal old mid local from to slot → to < length local → (get_or local to d).slot ≡ slot → ((a : Asked) → Gives mid a → Gives new (local_added a (get_or local to d).channel (get_or local to d).on)) → PassedLocal old new local from (to + 1) slot
one_local old mid new local from to slot d p h e g = record {
  gives = λ a s rows at. subst (Gives new) (local_step a local to d h (e ∙ at)) (g (having_local a (take to local)) (p.gives a s rows at));
  within = omega arith;
  more = omega arith;
}

pub no_local : (s : Scheduler) (local : List LocalRow) (from slot : ℕ) → from ≤ length local → PassedLocal s s local from from slot
no_local s local from slot h = record {
  gives = λ a g rows at. subst (λ (rs : List LocalRow). Gives s (having_local a rs)) rows g;
  within = h;
  more = omega arith;
}

-- ---- flow rows

-- the flow rows up to a number were passed
pub record PassedFlow (old new : Scheduler) (flow : List FlowRow) (from to slot : ℕ) : Type 0 where
  pub gives : (a : Asked) → Gives old a → a.source.flow ≡ take from flow → slot ≡ length a.words → (a.closed ≡ true → length flow ≤ from) → PassesFlow new a flow from to
  pub within : to ≤ length flow
  pub more : from ≤ to

flow_step : (a : Asked) (flow : List FlowRow) (k : ℕ) (waits : Bool) (d : FlowRow) → k < length flow → (get_or flow k d).slot ≡ length a.words → flow_added (having_flow a (take k flow) waits) (get_or flow k d).word ≡ having_flow a (take (k + 1) flow) false
flow_step a flow k waits d h e =
    let row : FlowRow = get_or flow k d in
    let made : record { slot = length a.words; word = row.word } ≡ row = ap (λ n. record { slot = n; word = row.word }) (sym e) in
    ap (λ (rs : List FlowRow). having_flow a rs false) (ap (λ (r : FlowRow). take k flow ++ r ∷ []) made ∙ sym (take_more flow k d h))

-- no step said that none is to come, where one is
pub still_open : (b : Bool) (n m : ℕ) → (b ≡ true → n ≤ m) → m < n → b ≡ false
still_open true n m h lt = let le : n ≤ m = h refl in absurd (omega arith)
still_open false n m h lt = refl

pub one_flow : (old mid new : Scheduler) (flow : List FlowRow) (from to slot : ℕ) (d : FlowRow) → PassedFlow old mid flow from to slot → to < length flow → (get_or flow to d).slot ≡ slot → ((a : Asked) → Gives mid a → a.closed ≡ false → Gives new (flow_added a (get_or flow to d).word)) → PassedFlow old new flow from (to + 1) slot
one_flow old mid new flow from to slot d p h e g =
    let le : from ≤ to = p.more in
    record {
      gives = λ a s rows at calls.
          let q = p.gives a s rows at calls in
          record {
            waits = false;
            gives = subst (Gives new) (flow_step a flow to q.waits d h (e ∙ at)) (g (having_flow a (take to flow) q.waits) q.gives (still_open a.closed (length flow) from calls (omega arith)));
            some = λ _. refl;
            none = λ same. absurd (omega arith);
          };
      within = omega arith;
      more = omega arith;
    }

pub no_flow : (s : Scheduler) (flow : List FlowRow) (from slot : ℕ) → from ≤ length flow → PassedFlow s s flow from from slot
no_flow s flow from slot h = record {
  gives = λ a g rows at calls. record {
    waits = a.waits;
    gives = subst (λ (rs : List FlowRow). Gives s (having_flow a rs a.waits)) rows g;
    some = λ lt. absurd (omega arith);
    none = λ _. refl;
  };
  within = h;
  more = omega arith;
}

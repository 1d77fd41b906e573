-- From the work and its saying to what is there after a run.
use Rattle.std.proofs.Common.{◌+◌, ◌<◌, ◌≤◌, ◌≡◌, ◌⊎◌, ℕ, Bool, true, false, List, [], ◌∷◌, ◌++◌, length, take, refl, sym, ap, ◌∙◌, subst, arith, Option, Some, cond, IfSome, inl, inr}
use Rattle.std.specs.Option.{option_or}
use Rattle.std.specs.Str.{bytes_eq}
use Rattle.run_shell.specs.declared.status.Status.{Status}
use Rattle.run_shell.specs.declared.status.Status.TheVariants.{Done, StoreFault, Usage, Held, PlanRefused, InputRefused, OutOfMemory, SinkFault}
use Rattle.lk_outside.specs.Files.{Files, file, Told}
use Rattle.run_stops.specs.Lines.{store_line}
use Rattle.run_shell.specs.Outcome.{Output, Outcome, IsFault, IsAnswer, Holds, HoldsPart, content_of, cut}
use Rattle.run_shell.specs.Meaning.{Meaning}
use Rattle.run_stops.specs.Stops.{StoreCount}
use Rattle.run_shell.specs.Ends.{Ends, Answers, FailsAt}
use Rattle.run_shell.specs.Run.{TellsStore, Says, said, cut_off, no_memory, sink_failed, AddsPart, AddsAll, Found, Settles, Tells, IsText, FaultsAt}
use Rattle.run_shell.specs.Ended.{Ended}
use Rattle.run_shell.specs.Ending.{IsEnding, Ran}
use Rattle.run_stops.proofs.Moves.{told_by, if_told_by}
use Rattle.run_shell.proofs.Causes.{plan_only, plan_always, input_only, input_always, held_only, held_always, done_always}

-- the whole contents are prefixes too
pub whole_take : (xs : List ℕ) → take (length xs) xs ≡ xs
whole_take [] = refl
whole_take (x ∷ xs) = ap (λ ys. x ∷ ys) (whole_take xs)

all_lengths : List Output → List ℕ
all_lengths [] = []
all_lengths (o ∷ os) = length o.content ∷ all_lengths os

content-cut_all : (outputs : List Output) (q : List ℕ) → content_of (cut outputs (all_lengths outputs)) q ≡ content_of outputs q
unfolding all_lengths
content-cut_all [] q = refl
content-cut_all (o ∷ os) q =
    ap (λ c. cond (bytes_eq o.name q) (Some c) (content_of (cut os (all_lengths os)) q)) (whole_take o.content)
    ∙ ap (λ c. cond (bytes_eq o.name q) (Some o.content) c) (content-cut_all os q)

whole_is_part : (outputs : List Output) (u v : Files) → Holds outputs u v → HoldsPart outputs u v
whole_is_part outputs u v h = (all_lengths outputs, λ q. h q ∙ ap (λ c. option_or c (file u q)) (sym (content-cut_all outputs q)))

-- an answer, or a stop
ends_as : (m : Meaning) (u : Files) (status : Status) (text : List ℕ) (x y : Option Files) → Ends m u status text x y → (IsFault status × ((o : Outcome) → m.IsOutcome u o → Told x y (HoldsPart o.files))) ⊎ Answers m u status text x y
ends_as m u StoreFault text x y e = inl (tt, e.1)
ends_as m u OutOfMemory text x y e = inl (tt, e.1)
ends_as m u SinkFault text x y e = absurd e
ends_as m u Done text x y e = inr e
ends_as m u Usage text x y e = inr e
ends_as m u Held text x y e = inr e
ends_as m u PlanRefused text x y e = inr e
ends_as m u InputRefused text x y e = inr e

-- what it answers is the one outcome
module _ (m : Meaning) (one : (files : Files) (o p : Outcome) → m.IsOutcome files o → m.IsOutcome files p → o ≡ p) (u : Files) (o : Outcome) (w : m.IsOutcome u o) where
  pub ends_part : (status : Status) (text : List ℕ) (x y : Option Files) → Ends m u status text x y → Told x y (HoldsPart o.files)
  ends_part status text x y e = elim (ends_as m u status text x y e) [
    | inl s ↦ s.1 o w
    | inr a ↦ subst (λ p. Told x y (HoldsPart p.files)) (one u a.outcome o a.is_outcome w) (told_by x y (whole_is_part a.outcome.files) a.files)
  ]

  ends_answer : (status : Status) (text : List ℕ) (x y : Option Files) → Ends m u status text x y → IsFault status ⊎ ((status ≡ o.status) × (text ≡ o.text) × Told x y (Holds o.files))
  ends_answer status text x y e = elim (ends_as m u status text x y e) [
    | inl s ↦ inl s.0
    | inr a ↦ inr (subst (λ (p : Outcome). (status ≡ p.status) × (text ≡ p.text) × Told x y (Holds p.files)) (one u a.outcome o a.is_outcome w) (a.status, a.text, a.files))
  ]

failed_is_fault : (status : Status) → TellsStore status true → IsFault status
failed_is_fault StoreFault t = tt
failed_is_fault OutOfMemory t = tt
failed_is_fault SinkFault t = absurd t
failed_is_fault Done t = cc
failed_is_fault Usage t = cc
failed_is_fault Held t = cc
failed_is_fault PlanRefused t = cc
failed_is_fault InputRefused t = cc

-- a status after a failing sink is of a fault
cut_is_fault : (status : Status) (f : Bool) → TellsStore status f → IsFault (sink_failed status f)
cut_is_fault status true t = failed_is_fault status t
cut_is_fault status false t = tt

store_quiet : (status : Status) (f : Bool) (sb sa : ℕ) → TellsStore status f → StoreCount f sb sa → IsAnswer status → sa ≡ sb
store_quiet status true sb sa t c a = absurd (a (failed_is_fault status t))
store_quiet status false sb sa t c a = c

run_quiet : (status : Status) (f : Bool) (text : List ℕ) (result : Status) (sb sa kb ka : ℕ) (was is : Option (List ℕ)) → TellsStore status f → StoreCount f sb sa → Says status f text result kb ka was is → IsAnswer result → (sa ≡ sb) × (ka ≡ kb)
run_quiet status f text result sb sa kb ka was is t c (said same h) a = (store_quiet status f sb sa t c a, same)
run_quiet status f text result sb sa kb ka was is t c (cut_off rose h) a = absurd (a (cut_is_fault status f t))
run_quiet status f text result sb sa kb ka was is t c (no_memory same h) a = absurd (a tt)

store_rose : (f : Bool) (sb sa : ℕ) → f ≡ true → StoreCount f sb sa → sa ≡ sb + 1
store_rose f sb sa e c = subst (λ x. StoreCount x sb sa) e c

all_is_part : (text u v : List ℕ) → AddsAll text u v → AddsPart text u v
all_is_part text u v h = (length text, omega arith, h ∙ ap (λ t. u ++ t) (sym (whole_take text)))

ends_store : (m : Meaning) (u : Files) (status : Status) (text : List ℕ) (x y : Option Files) → status ≡ StoreFault → Ends m u status text x y → (name : List ℕ) × FailsAt m u name x y × (text ≡ store_line name)
ends_store m u status text x y is e = (subst (λ s. Ends m u s text x y) is e).0

cut_from_store : (status : Status) (f : Bool) → sink_failed status f ≡ StoreFault → status ≡ StoreFault
cut_from_store status true e = e
cut_from_store status false e = cc

module _ (m : Meaning) (one : (files : Files) (o p : Outcome) → m.IsOutcome files o → m.IsOutcome files p → o ≡ p) (u : Files) (o : Outcome) (w : m.IsOutcome u o) where
  ends_text : (status : Status) (text : List ℕ) (x y : Option Files) → Ends m u status text x y → IsText o (m.Names u) text
  ends_text StoreFault text x y e = let (name, it, line) = e.0 in inr (inl (name, it.0, line))
  ends_text OutOfMemory text x y e = inr (inr e.0)
  ends_text SinkFault text x y e = absurd e
  ends_text Done text x y e = inl (e.text ∙ ap (λ (p : Outcome). p.text) (one u e.outcome o e.is_outcome w))
  ends_text Usage text x y e = inl (e.text ∙ ap (λ (p : Outcome). p.text) (one u e.outcome o e.is_outcome w))
  ends_text Held text x y e = inl (e.text ∙ ap (λ (p : Outcome). p.text) (one u e.outcome o e.is_outcome w))
  ends_text PlanRefused text x y e = inl (e.text ∙ ap (λ (p : Outcome). p.text) (one u e.outcome o e.is_outcome w))
  ends_text InputRefused text x y e = inl (e.text ∙ ap (λ (p : Outcome). p.text) (one u e.outcome o e.is_outcome w))

  settle : (status : Status) (f : Bool) (text : List ℕ) (result : Status) (kb ka : ℕ) (was is : Option (List ℕ)) (x y : Option Files) → TellsStore status f → Says status f text result kb ka was is → Ends m u status text x y → Settles o result x y
  settle status f text result kb ka was is x y t (said same h) e = record {
    answer = elim (ends_answer m one u o w status text x y e) [ inl a ↦ inr a | inr a ↦ inl a.0 ];
    done = λ a. elim (ends_answer m one u o w status text x y e) [ inl b ↦ absurd (a b) | inr b ↦ b.2 ];
    stopped = λ a. ends_part m one u o w status text x y e;
  }
  settle status f text result kb ka was is x y t (cut_off rose h) e = record {
    answer = inr (cut_is_fault status f t);
    done = λ a. absurd (a (cut_is_fault status f t));
    stopped = λ a. ends_part m one u o w status text x y e;
  }
  settle status f text result kb ka was is x y t (no_memory same h) e = record {
    answer = inr tt;
    done = λ a. absurd (a tt);
    stopped = λ a. ends_part m one u o w status text x y e;
  }

  tell : (status : Status) (f : Bool) (text : List ℕ) (result : Status) (kb ka : ℕ) (was is : Option (List ℕ)) (x y : Option Files) → TellsStore status f → Says status f text result kb ka was is → Ends m u status text x y → Tells o (m.Names u) result kb ka was is
  tell status f text result kb ka was is x y t (said same h) e = record {
    whole = λ a. elim (ends_answer m one u o w status text x y e) [ inl b ↦ absurd (a b) | inr b ↦ subst (λ s. Told was is (AddsAll s)) b.1 h ];
    store_fault = λ s. let (name, it, line) = ends_store m u status text x y s e in
        let all : Told was is (AddsAll (store_line name)) = subst (λ z. Told was is (AddsAll z)) line h in
        (name, it.0, told_by was is (all_is_part (store_line name)) all, inr all);
    part = λ a. (text, ends_text status text x y e, told_by was is (all_is_part text) h);
  }
  tell status f text result kb ka was is x y t (cut_off rose h) e = record {
    whole = λ a. absurd (a (cut_is_fault status f t));
    store_fault = λ s. let (name, it, line) = ends_store m u status text x y (cut_from_store status f s) e in
        (name, it.0, subst (λ z. Told was is (AddsPart z)) line h, inl (omega arith));
    part = λ a. (text, ends_text status text x y e, h);
  }
  tell status f text result kb ka was is x y t (no_memory same h) e = record {
    whole = λ a. absurd (a tt);
    store_fault = λ s. cc;
    part = λ a. (text, ends_text status text x y e, h);
  }

  -- with no rise there is the outcome's answer, or memory ran out
  complete_work : (status : Status) (f : Bool) (text : List ℕ) (sb sa : ℕ) (x y : Option Files) → TellsStore status f → StoreCount f sb sa → Ends m u status text x y → sa ≡ sb → (status ≡ o.status) ⊎ (status ≡ OutOfMemory)
  complete_work StoreFault f text sb sa x y t c e same = let rose = store_rose f sb sa t c in absurd (omega arith)
  complete_work OutOfMemory f text sb sa x y t c e same = inr refl
  complete_work SinkFault f text sb sa x y t c e same = absurd e
  complete_work Done f text sb sa x y t c e same = inl (e.status ∙ ap (λ (p : Outcome). p.status) (one u e.outcome o e.is_outcome w))
  complete_work Usage f text sb sa x y t c e same = inl (e.status ∙ ap (λ (p : Outcome). p.status) (one u e.outcome o e.is_outcome w))
  complete_work Held f text sb sa x y t c e same = inl (e.status ∙ ap (λ (p : Outcome). p.status) (one u e.outcome o e.is_outcome w))
  complete_work PlanRefused f text sb sa x y t c e same = inl (e.status ∙ ap (λ (p : Outcome). p.status) (one u e.outcome o e.is_outcome w))
  complete_work InputRefused f text sb sa x y t c e same = inl (e.status ∙ ap (λ (p : Outcome). p.status) (one u e.outcome o e.is_outcome w))

  complete_after : (status : Status) (f : Bool) (text : List ℕ) (result : Status) (sb sa kb ka : ℕ) (was is : Option (List ℕ)) (x y : Option Files) → TellsStore status f → StoreCount f sb sa → Says status f text result kb ka was is → Ends m u status text x y → sa ≡ sb → ka ≡ kb → (result ≡ o.status) ⊎ (result ≡ OutOfMemory)
  complete_after status f text result sb sa kb ka was is x y t c (said same h) e s k = complete_work status f text sb sa x y t c e s
  complete_after status f text result sb sa kb ka was is x y t c (cut_off rose h) e s k = absurd (omega arith)
  complete_after status f text result sb sa kb ka was is x y t c (no_memory same h) e s k = inr refl

-- which file the line of the store's failure names, and what has changed then
first_after : (m : Meaning) (u : Files) (status : Status) (f : Bool) (text : List ℕ) (result : Status) (kb ka : ℕ) (was is : Option (List ℕ)) (x y : Option Files) → Says status f text result kb ka was is → Ends m u status text x y → result ≡ StoreFault → FaultsAt (m.Names u) (m.Creates u) (m.IsReadLate u) kb ka was is x y
first_after m u status f text result kb ka was is x y (said same h) e s =
    let (name, it, line) = ends_store m u status text x y s e in
    let all : Told was is (AddsAll (store_line name)) = subst (λ z. Told was is (AddsAll z)) line h in
    record { name = name; is_named = it.0; part = told_by was is (all_is_part (store_line name)) all; whole = inr all; unchanged = it.1 }
first_after m u status f text result kb ka was is x y (cut_off rose h) e s =
    let (name, it, line) = ends_store m u status text x y (cut_from_store status f s) e in
    record { name = name; is_named = it.0; part = subst (λ z. Told was is (AddsPart z)) line h; whole = inl (omega arith); unchanged = it.1 }
first_after m u status f text result kb ka was is x y (no_memory same h) e s = cc

-- one run raises each count by one at most
store_once : (f : Bool) (sb sa : ℕ) → StoreCount f sb sa → sa ≤ sb + 1
store_once true sb sa c = omega arith
store_once false sb sa c = omega arith

sink_once : (status : Status) (f : Bool) (text : List ℕ) (result : Status) (kb ka : ℕ) (was is : Option (List ℕ)) → Says status f text result kb ka was is → ka ≤ kb + 1
sink_once status f text result kb ka was is (said same h) = omega arith
sink_once status f text result kb ka was is (cut_off rose h) = omega arith
sink_once status f text result kb ka was is (no_memory same h) = omega arith

-- a fault of the sink replaces every status, if the store did not fail
sink_replaces : (status : Status) (f : Bool) (text : List ℕ) (result : Status) (sb sa kb ka : ℕ) (was is : Option (List ℕ)) → StoreCount f sb sa → Says status f text result kb ka was is → kb < ka → sa ≡ sb → result ≡ SinkFault
sink_replaces status f text result sb sa kb ka was is c (said same h) rose quiet = absurd (omega arith)
sink_replaces status true text result sb sa kb ka was is c (cut_off more h) rose quiet = absurd (omega arith)
sink_replaces status false text result sb sa kb ka was is c (cut_off more h) rose quiet = refl
sink_replaces status f text result sb sa kb ka was is c (no_memory same h) rose quiet = absurd (omega arith)

found_work : (m : Meaning) (u : Files) (status : Status) (text : List ℕ) (x y : Option Files) → Ends m u status text x y → IsAnswer status → Found (m.IsOutcome u) status
found_work m u status text x y e a = elim (ends_as m u status text x y e) [ inl s ↦ absurd (a s.0) | inr b ↦ (b.outcome, b.is_outcome, b.status) ]

-- a run's answer is the work's, which has an outcome
found_after : (m : Meaning) (u : Files) (status : Status) (f : Bool) (text : List ℕ) (result : Status) (kb ka : ℕ) (was is : Option (List ℕ)) (x y : Option Files) → TellsStore status f → Says status f text result kb ka was is → Ends m u status text x y → IsAnswer result → Found (m.IsOutcome u) result
found_after m u status f text result kb ka was is x y t (said same h) e a = found_work m u status text x y e a
found_after m u status f text result kb ka was is x y t (cut_off rose h) e a = absurd (a (cut_is_fault status f t))
found_after m u status f text result kb ka was is x y t (no_memory same h) e a = absurd (a tt)

store_faulted : (status : Status) (f : Bool) (text : List ℕ) (result : Status) (sb sa kb ka : ℕ) (was is : Option (List ℕ)) → TellsStore status f → StoreCount f sb sa → Says status f text result kb ka was is → result ≡ StoreFault → sb < sa
store_faulted status f text result sb sa kb ka was is t c (said same h) r =
    let rose = store_rose f sb sa (subst (λ s. TellsStore s f) r t) c in omega arith
store_faulted status true text result sb sa kb ka was is t c (cut_off rose h) r = omega arith
store_faulted status false text result sb sa kb ka was is t c (cut_off rose h) r = cc
store_faulted status f text result sb sa kb ka was is t c (no_memory same h) r = cc

sink_faulted : (status : Status) (f : Bool) (text : List ℕ) (result : Status) (sb sa kb ka : ℕ) (was is : Option (List ℕ)) → TellsStore status f → StoreCount f sb sa → Says status f text result kb ka was is → result ≡ SinkFault → (kb < ka) × (sa ≡ sb)
sink_faulted status f text result sb sa kb ka was is t c (said same h) r = absurd (subst (λ s. TellsStore s f) r t)
sink_faulted status true text result sb sa kb ka was is t c (cut_off rose h) r = absurd (subst (λ s. TellsStore s true) r t)
sink_faulted status false text result sb sa kb ka was is t c (cut_off rose h) r = (omega arith, c)
sink_faulted status f text result sb sa kb ka was is t c (no_memory same h) r = cc

says_usage : (accepted : Type 0) (status : Status) (f : Bool) (text : List ℕ) (result : Status) (kb ka : ℕ) (was is : Option (List ℕ)) → (status ≡ Usage → accepted → ⊥) → Says status f text result kb ka was is → result ≡ Usage → accepted → ⊥
says_usage accepted status f text result kb ka was is usage (said same h) r = usage r
says_usage accepted status true text result kb ka was is usage (cut_off rose h) r = usage r
says_usage accepted status false text result kb ka was is usage (cut_off rose h) r = cc
says_usage accepted status f text result kb ka was is usage (no_memory same h) r = cc

fault_of : (status : Status) → (status ≡ Usage) ⊎ (status ≡ OutOfMemory) → (status ≡ Usage) ⊎ IsFault status
fault_of status (inl e) = inl e
fault_of status (inr e) = inr (subst IsFault (sym e) tt)

says_misused : (status : Status) (f : Bool) (text : List ℕ) (result : Status) (kb ka : ℕ) (was is : Option (List ℕ)) → TellsStore status f → (status ≡ Usage) ⊎ (status ≡ OutOfMemory) → Says status f text result kb ka was is → (result ≡ Usage) ⊎ IsFault result
says_misused status f text result kb ka was is t e (said same h) = fault_of status e
says_misused status f text result kb ka was is t e (cut_off rose h) = inr (cut_is_fault status f t)
says_misused status f text result kb ka was is t e (no_memory same h) = inr tt

-- a run is its work's ending, said
pub ran : (accepted : Type 0) (m : Meaning) (e : Ended) (result : Status) (sb sa kb ka : ℕ) (x y : Option Files) (was is : Option (List ℕ)) → IsEnding accepted m e sb sa x y → Says e.status e.store_failed e.text result kb ka was is → Ran accepted m result sb sa kb ka x y was is
ran accepted m e result sb sa kb ka x y was is h says =
    let one = h.lawful.one_outcome in
    let found : IfSome x (λ files. IsAnswer result → Found (m.IsOutcome files) result) =
    if_told_by x (λ u k. found_after m u e.status e.store_failed e.text result kb ka was is x y h.store says k) h.ends in
    record {
      store_fault = store_faulted e.status e.store_failed e.text result sb sa kb ka was is h.store h.count says;
      sink_fault = sink_faulted e.status e.store_failed e.text result sb sa kb ka was is h.store h.count says;
      sink_replaces = sink_replaces e.status e.store_failed e.text result sb sa kb ka was is h.count says;
      quiet = run_quiet e.status e.store_failed e.text result sb sa kb ka was is h.store h.count says;
      store_once = store_once e.store_failed sb sa h.count;
      sink_once = sink_once e.status e.store_failed e.text result kb ka was is says;
      usage = says_usage accepted e.status e.store_failed e.text result kb ka was is h.usage says;
      misused = λ none. says_misused e.status e.store_failed e.text result kb ka was is h.store (h.misused none) says;
      plan_refused = plan_only accepted m h.lawful result x found;
      refused_plan = plan_always accepted m h.lawful result x found;
      input_refused = input_only accepted m h.lawful result x found;
      refused_input = input_always accepted m h.lawful result x found;
      held = held_only accepted m h.lawful result x found;
      held_stream = held_always accepted m h.lawful result x found;
      accepted_words = done_always accepted m h.lawful result x found;
      found = found;
      complete = if_told_by x (λ u k o w. complete_after m one u o w e.status e.store_failed e.text result sb sa kb ka was is x y h.store h.count says k) h.ends;
      settled = if_told_by x (λ u k o w. settle m one u o w e.status e.store_failed e.text result kb ka was is x y h.store says k) h.ends;
      others = h.others;
      inputs_first = if_told_by x (λ u k. first_after m u e.status e.store_failed e.text result kb ka was is x y says k) h.ends;
      text = if_told_by x (λ u k o w. tell m one u o w e.status e.store_failed e.text result kb ka was is x y h.store says k) h.ends;
    }

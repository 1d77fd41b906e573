-- What the work came to, as an ending.
use Rattle.std.proofs.Common.{◌≡◌, ◌⊎◌, ℕ, false, List, refl, sym, subst, ◌∙◌, [], Option, Some, None, IfSome, Err, inl, inr}
use Rattle.run_stops.specs.Lines.{usage_line, memory_line}
use Rattle.run_shell.specs.declared.status.Status.{Status}
use Rattle.run_shell.specs.declared.status.Status.TheVariants.{Usage, OutOfMemory}
use Rattle.run_stops.specs.declared.stop.Stop.{Stop}
use Rattle.run_stops.specs.declared.stop.Stop.TheVariants as stop
use Rattle.run_shell.specs.declared.finished.Finished.{Finished}
use Rattle.lk_outside.specs.Files.{Files, Told}
use Rattle.run_shell.specs.Outcome.{Outcome, Holds, HoldsPart, LeavesOthers}
use Rattle.run_shell.specs.Meaning.{Meaning, Cause, IsLawful, IsMeaning, of_words, of_plan, of_input, of_held, of_none}
use Rattle.run_stops.specs.Stops.{StoreCount, StopCount, stop_text, is_of_store}
use Rattle.run_shell.specs.Ends.{Ends, Comes, stop_status}
use Rattle.run_shell.specs.Run.{TellsStore}
use Rattle.run_shell.specs.Ended.{Ended}
use Rattle.run_shell.specs.Ending.{IsEnding, IsEndingOf, IsMisused, IsNoMemory, misused, misused_meaning}
use Rattle.run_stops.proofs.Moves.{told_refl, if_told_by}
use Rattle.run_shell.proofs.Runs.{ends_part}
use Rattle.run_shell.proofs.Works.{untouched}

stop_store : (s : Stop) → TellsStore (stop_status s) (is_of_store s)
stop_store (stop.Plan why) = refl
stop_store (stop.Input name why) = refl
stop_store (stop.Store name) = refl
stop_store stop.StoreNoMemory = tt
stop_store stop.OutOfMemory = tt

stop_used : (s : Stop) → stop_status s ≡ Usage → ⊥
stop_used (stop.Plan why) e = cc
stop_used (stop.Input name why) e = cc
stop_used (stop.Store name) e = cc
stop_used stop.StoreNoMemory e = cc
stop_used stop.OutOfMemory e = cc

stop_count : (T : Type 0) (s : Stop) (sb sa : ℕ) → StopCount {T = T} (Err s) sb sa → StoreCount (is_of_store s) sb sa
stop_count T (stop.Plan why) sb sa c = c
stop_count T (stop.Input name why) sb sa c = c
stop_count T (stop.Store name) sb sa c = c
stop_count T stop.StoreNoMemory sb sa c = c
stop_count T stop.OutOfMemory sb sa c = c

-- a part of the outcome is there, even if there is no memory for the line of an answer
to_memory : (m : Meaning) (one : (files : Files) (o p : Outcome) → m.IsOutcome files o → m.IsOutcome files p → o ≡ p) (s : Stop) (u : Files) (x y : Option Files) → Ends m u (stop_status s) (stop_text s) x y → Ends m u OutOfMemory memory_line x y
to_memory m one s u x y e = (refl, λ o w. ends_part m one u o w (stop_status s) (stop_text s) x y e)

moved : (m : Meaning) (u : Files) (s t : Status) (text line : List ℕ) (x y : Option Files) → t ≡ s → line ≡ text → Ends m u s text x y → Ends m u t line x y
moved m u s t text line x y is same e =
    subst (λ (z : Status). Ends m u z line x y) (sym is) (subst (λ (z : List ℕ). Ends m u s z x y) (sym same) e)

-- the end of a work that stopped
pub stop_ends : (m : Meaning) (s : Stop) (e : Ended) (sb sa : ℕ) (x y : Option Files) → IsMeaning m → StopCount {T = Finished} (Err s) sb sa → Told x y (LeavesOthers m.Creates) → IfSome x (Comes m x y (Err s)) → IsEndingOf s e → IsEnding (Unit {0}) m e sb sa x y
stop_ends m s e sb sa x y law count others comes h = record {
  lawful = law;
  count = subst (λ b. StoreCount b sb sa) (sym h.store) (stop_count Finished s sb sa count);
  store = elim h.is [
    | inl is ↦ subst (λ b. TellsStore e.status b) (sym h.store) (subst (λ z. TellsStore z (is_of_store s)) (sym is.0) (stop_store s))
    | inr is ↦ subst (λ z. TellsStore z e.store_failed) (sym is.0) tt
  ];
  usage = λ used. elim h.is [ inl is ↦ absurd (stop_used s (sym is.0 ∙ used)) | inr is ↦ absurd (memory_used (sym is.0 ∙ used)) ];
  misused = λ none. absurd (none tt);
  others = others;
  ends = elim h.is [
    | inl is ↦ if_told_by x (λ u k. moved m u (stop_status s) e.status (stop_text s) e.text x y is.0 is.1 k) comes
    | inr is ↦ if_told_by x (λ u k. moved m u OutOfMemory e.status memory_line e.text x y is.0 is.1 (to_memory m law.one_outcome s u x y k)) comes
  ];
}
  where
    memory_used : OutOfMemory ≡ Usage → ⊥
    memory_used e = cc

-- words that are not accepted mean this
pub misused_lawful : (accepted : Type 0) → (accepted → ⊥) → IsLawful accepted misused_meaning
misused_lawful accepted none = record {
  one_outcome = λ files o p h k. h ∙ sym k;
  some_outcome = λ files bytes. (misused, refl);
  one_cause = λ files o h. subst (λ (p : Outcome). Cause accepted ⊥ ⊥ ⊥ p.status) (sym h) (of_words none (λ z. z) (λ z. z) (λ z. z));
}

misused_by : (e : Ended) (u : Files) (x : Option Files) → x ≡ Some u → ((e.status ≡ Usage) × (e.text ≡ usage_line)) ⊎ ((e.status ≡ OutOfMemory) × (e.text ≡ memory_line)) → Ends misused_meaning u e.status e.text x x
misused_by e u x told (inl is) = moved misused_meaning u Usage e.status usage_line e.text x x is.0 is.1
    (record { outcome = misused; is_outcome = refl; status = refl; text = refl; files = told_refl (Holds []) x (λ v q. refl) })
misused_by e u x told (inr is) = moved misused_meaning u OutOfMemory e.status memory_line e.text x x is.0 is.1
    (refl, λ o w. told_refl (HoldsPart o.files) x (λ v. subst (λ (p : Outcome). HoldsPart p.files v v) (sym w) ([], λ q. refl)))

pub misused_ends : (accepted : Type 0) (e : Ended) (sb : ℕ) (x : Option Files) → (accepted → ⊥) → IsMisused e → IsEnding accepted misused_meaning e sb sb x x
misused_ends accepted e sb x none h = record {
  lawful = misused_lawful accepted none;
  count = subst (λ b. StoreCount b sb sb) (sym h.store) refl;
  store = elim h.is [
    | inl is ↦ subst (λ b. TellsStore e.status b) (sym h.store) (subst (λ z. TellsStore z false) (sym is.0) refl)
    | inr is ↦ subst (λ z. TellsStore z e.store_failed) (sym is.0) tt
  ];
  usage = λ used. none;
  misused = λ no. elim h.is [ inl is ↦ inl is.0 | inr is ↦ inr is.0 ];
  others = told_refl (LeavesOthers misused_meaning.Creates) x (λ u q out. refl);
  ends = ends x;
}
  where
    ends : (z : Option Files) → IfSome z (λ files. Ends misused_meaning files e.status e.text z z)
    ends None = tt
    ends (Some u) = misused_by e u (Some u) refl h.is

cause_for : (accepted plan input held : Type 0) (s : Status) → Cause (Unit {0}) plan input held s → Cause accepted plan input held s
cause_for accepted plan input held s (of_words n p i h) = absurd (n tt)
cause_for accepted plan input held s (of_plan p i h) = of_plan p i h
cause_for accepted plan input held s (of_input p i h) = of_input p i h
cause_for accepted plan input held s (of_held p i h) = of_held p i h
cause_for accepted plan input held s (of_none p i h) = of_none p i h

pub asked_lawful : (accepted : Type 0) → accepted → (m : Meaning) → IsMeaning m → IsLawful accepted m
asked_lawful accepted a m h = record { one_outcome = h.one_outcome; some_outcome = h.some_outcome; one_cause = λ files o w. cause_for accepted _ _ _ o.status (h.one_cause files o w) }

-- the end of a command, for words that ask for it
pub asked_ends : (accepted : Type 0) → accepted → (m : Meaning) (e : Ended) (sb sa : ℕ) (x y : Option Files) → IsEnding (Unit {0}) m e sb sa x y → IsEnding accepted m e sb sa x y
asked_ends accepted a m e sb sa x y h = record {
  lawful = asked_lawful accepted a m h.lawful;
  count = h.count;
  store = h.store;
  usage = λ used. absurd (h.usage used tt);
  misused = λ none. absurd (none a);
  others = h.others;
  ends = h.ends;
}

-- memory ran out before there was a command, whatever it means
pub no_memory_ends : (accepted : Type 0) (m : Meaning) (e : Ended) (sb : ℕ) (x : Option Files) → IsLawful accepted m → IsNoMemory e → IsEnding accepted m e sb sb x x
no_memory_ends accepted m e sb x law h = record {
  lawful = law;
  count = subst (λ b. StoreCount b sb sb) (sym h.store) refl;
  store = subst (λ z. TellsStore z e.store_failed) (sym h.status) tt;
  usage = λ used. absurd (apart (sym h.status ∙ used));
  misused = λ no. inr h.status;
  others = told_refl (LeavesOthers m.Creates) x (λ u q out. refl);
  ends = ends x;
}
  where
    apart : OutOfMemory ≡ Usage → ⊥
    apart e = cc

    ends : (z : Option Files) → IfSome z (λ files. Ends m files e.status e.text z z)
    ends None = tt
    ends (Some u) = moved m u OutOfMemory e.status memory_line e.text (Some u) (Some u) h.status h.text (refl, untouched m u (Some u))

-- From the steps of a maker to what a command makes.
use Rattle.std.proofs.Common.{◌≡◌, ℕ, false, List, [], ◌∷◌, refl, ap, ◌∙◌, subst, Option, Err, Ok, Contains}
use Rattle.lk_outside.specs.Files.{Files, Told}
use Rattle.run_stops.specs.declared.stop.Stop.{Stop}
use Rattle.run_stops.specs.Stops.{StoreStops}
use Rattle.run_shell.specs.declared.finished.Finished.{Finished}
use Rattle.run_shell.specs.declared.status.Status.{Status}
use Rattle.run_shell.specs.declared.status.Status.TheVariants.{Done}
use Rattle.run_shell.specs.declared.step.Step.{Step}
use Rattle.run_shell.specs.declared.step.Step.TheVariants as step
use Rattle.run_shell.specs.Ends.{held_status}
use Rattle.run_shell.specs.Open.{Open}
use Rattle.run_shell.specs.Outcome.{Outcome, Holds, HoldsPart}
use Rattle.run_shell.specs.Outputs.{outs, blank, open_names, IsOpen}
use Rattle.run_shell.specs.Writing.{Writes, delivered}
use Rattle.run_shell.specs.Making.{AllBegin, Goes, IfDone, IfMore}
use Rattle.run_shell.proofs.Fills.{open_part, same_prefixes}
use Rattle.run_shell.proofs.Writing.{stop_writes, done_writes}

-- ---- one step

pub goes_by : (s : Step) (A B : Type 0) (C D : Finished → Type 0) → (A → B) → ((f : Finished) → C f → D f) → IfMore A s → IfDone C s → Goes B D s
goes_by step.More A B C D on to more done = on more
goes_by (step.Done f) A B C D on to more done = to f done

pub goes_more : (s : Step) (A : Type 0) (C : Finished → Type 0) → s ≡ step.More → Goes A C s → A
goes_more s A C is h = subst (Goes A C) is h

pub goes_done : (s : Step) (f : Finished) (A : Type 0) (C : Finished → Type 0) → s ≡ step.Done f → Goes A C s → C f
goes_done s f A C is h = subst (Goes A C) is h

module _ (of : Outcome → Type 0) (names : List (List ℕ)) where
  -- if one outcome is made, what it has begins it
  pub one_begins : (given : List (List ℕ)) (f : Finished) → ((o p : Outcome) → of o → of p → o ≡ p) → of (delivered names given f) → AllBegin of names given
  one_begins given f one made o is = (given, ap (λ (x : Outcome). x.files) (one o (delivered names given f) is made), same_prefixes given)

  -- what was given by a step begins each outcome
  pub goes_begins : (s : Step) (given : List (List ℕ)) (A B : Type 0) → ((o p : Outcome) → of o → of p → o ≡ p) → (A → B → AllBegin of names given) → IfMore A s → Goes B (λ f. of (delivered names given f)) s → AllBegin of names given
  goes_begins step.More given A B one on kept h = on kept h
  goes_begins (step.Done f) given A B one on kept h = one_begins given f one h

-- a part of what was given is there, if the outputs are open
pub open_stands : (names : List (List ℕ)) (opens : List Open) (given : List (List ℕ)) (was now : Option Files) → open_names opens ≡ names → IsOpen opens given was now → Told was now (HoldsPart (outs names given))
open_stands names opens given was now is o = subst (λ ns. Told was now (HoldsPart (outs ns given))) is (open_part opens given given was now (same_prefixes given) o)

-- ---- one output

-- the outcome with this one output and this text
pub one_delivered : (name : List ℕ) (given : List (List ℕ)) (content text : List ℕ) (f : Finished) → given ≡ content ∷ [] → f.held ≡ false → f.text.items ≡ text
    → delivered (name ∷ []) given f ≡ record { status = Done; files = record { name = name; content = content } ∷ []; text = text }
one_delivered name given content text f is free same =
    ap (λ (gs : List (List ℕ)). delivered (name ∷ []) gs f) is ∙ ap (λ h. by (held_status h) f.text.items) free ∙ ap (by Done) same
  where
    by : Status → List ℕ → Outcome
    by status t = record { status = status; files = record { name = name; content = content } ∷ []; text = t }

-- ---- the whole

module _ (of : Outcome → Type 0) (names : List (List ℕ)) where
  -- nothing was created, or some first of the outputs
  pub not_made : (T : Type 0) (ns : List (List ℕ)) (s : Stop) (x y : Option Files) → ns ≡ names → AllBegin of names (blank names) → StoreStops {T = T} (Contains ns) (Err s) → Told x y (HoldsPart (outs ns (blank ns))) → Writes of names (Err s) x y
  not_made T ns s x y is begin store h =
      stop_writes of names T s (blank names) x y begin (subst (λ ms. StoreStops {T = T} (Contains ms) (Err s)) is store) (subst (λ ms. Told x y (HoldsPart (outs ms (blank ms)))) is h)

  -- the work stopped, or the rests were not all appended
  pub not_worked : (T : Type 0) (ns : List (List ℕ)) (s : Stop) (given : List (List ℕ)) (x y : Option Files) → ns ≡ names → AllBegin of names given → StoreStops {T = T} (Contains ns) (Err s) → Told x y (HoldsPart (outs names given)) → Writes of names (Err s) x y
  not_worked T ns s given x y is begin store h = stop_writes of names T s given x y begin (subst (λ ms. StoreStops {T = T} (Contains ms) (Err s)) is store) h

  pub all_made : (f : Finished) (ns : List (List ℕ)) (given : List (List ℕ)) (x y : Option Files) → ns ≡ names → of (delivered names given f) → Told x y (Holds (outs ns given)) → Writes of names (Ok f) x y
  all_made f ns given x y is made h = done_writes of names f given (delivered names given f) x y made refl refl refl (subst (λ ms. Told x y (Holds (outs ms given))) is h)

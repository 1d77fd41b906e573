-- What outputs were given: what is there, and then their rests.
use Rattle.lk_base.specs.declared.memory.OutOfMemory.{OutOfMemory}
use Rattle.std.proofs.Common.{OnOk, Result, Ok, Err, ◌≡◌, ℕ, zero, suc, ◌<◌, List, [], ◌∷◌, ◌++◌, length, get_or, set, append_assoc, append-nil, refl, sym, ap, ◌∙◌, subst, arith, Option}
use Rattle.lk_outside.specs.Files.{Files, Told}
use Rattle.run_shell.specs.Outcome.{Holds}
use Rattle.run_shell.specs.Open.{Open}
use Rattle.run_shell.specs.Outputs.{outs, open_names, AreGiven, IsOpen, more}
use Rattle.run_shell.specs.Rests.{rests_of, join}

-- bytes after one rest
pub rests_set : (fs : List Open) (i : ℕ) (z now : Open) (bytes : List ℕ) → i < length fs → now.rest ≡ (get_or fs i z).rest ++ bytes → rests_of (set fs i now) ≡ more (rests_of fs) i bytes
rests_set [] i z now bytes lt e = refl
rests_set (f ∷ fs) zero z now bytes lt e = ap (λ r. r ∷ rests_of fs) e
rests_set (f ∷ fs) (suc i) z now bytes lt e = ap (λ rs. f.rest ∷ rs) (rests_set fs i z now bytes (omega arith) e)

-- more after a rest is more of what was given
pub join_more : (ds rs : List (List ℕ)) (i : ℕ) (bytes : List ℕ) → join ds (more rs i bytes) ≡ more (join ds rs) i bytes
join_more [] rs i bytes = refl
join_more (d ∷ ds) [] i bytes = refl
join_more (d ∷ ds) (r ∷ rs) zero bytes = ap (λ x. x ∷ join ds rs) (sym (append_assoc d r bytes))
join_more (d ∷ ds) (r ∷ rs) (suc i) bytes = ap (λ xs. (d ++ r) ∷ xs) (join_more ds rs i bytes)

-- the rests after one output was given more
pub join_given : (ds rs now : List (List ℕ)) (i : ℕ) (bytes : List ℕ) → now ≡ more rs i bytes → join ds now ≡ more (join ds rs) i bytes
join_given ds rs now i bytes e = ap (join ds) e ∙ join_more ds rs i bytes

-- nothing more
pub more_none : (gs : List (List ℕ)) (i : ℕ) → more gs i [] ≡ gs
more_none [] i = refl
more_none (g ∷ gs) zero = ap (λ x. x ∷ gs) (append-nil g)
more_none (g ∷ gs) (suc i) = ap (λ xs. g ∷ xs) (more_none gs i)

pub given_joins : (fs : List Open) (ds gs : List (List ℕ)) → AreGiven fs ds gs → gs ≡ join ds (rests_of fs)
given_joins [] [] [] a = refl
given_joins [] [] (g ∷ gs) a = absurd a
given_joins [] (d ∷ ds) gs a = absurd a
given_joins (f ∷ fs) [] gs a = absurd a
given_joins (f ∷ fs) (d ∷ ds) [] a = absurd a
given_joins (f ∷ fs) (d ∷ ds) (g ∷ gs) a = ap (λ x. x ∷ gs) a.0 ∙ ap (λ xs. (d ++ f.rest) ∷ xs) (given_joins fs ds gs a.1)

abbrev tail_of : List (List ℕ) → List (List ℕ)
tail_of [] = []
tail_of (x ∷ xs) = xs

-- outputs with these names and other rests were given what is there, and then these rests
pub joins_given : (fs now : List Open) (ds gs : List (List ℕ)) → open_names now ≡ open_names fs → AreGiven fs ds gs → AreGiven now ds (join ds (rests_of now))
joins_given [] [] [] gs e a = tt
joins_given [] (n ∷ now) ds gs e a = absurd (omega (arith, ap length e))
joins_given [] [] (d ∷ ds) gs e a = absurd a
joins_given (f ∷ fs) [] ds gs e a = absurd (omega (arith, ap length e))
joins_given (f ∷ fs) (n ∷ now) [] gs e a = absurd a
joins_given (f ∷ fs) (n ∷ now) (d ∷ ds) [] e a = absurd a
joins_given (f ∷ fs) (n ∷ now) (d ∷ ds) (g ∷ gs) e a = (refl, joins_given fs now ds gs (ap tail_of e) a.1)

-- the files are as they were, and the outputs hold more
pub holds_more : (fs now : List Open) (gs : List (List ℕ)) (was x : Option Files) → open_names now ≡ open_names fs → (o : IsOpen fs gs was x) → IsOpen now (join o.done (rests_of now)) was x
holds_more fs now gs was x e o = record {
  done = o.done;
  are = joins_given fs now o.done gs e o.are;
  stand = subst (λ ns. Told was x (Holds (outs ns o.done))) (sym e) o.stand;
}

pub on_ok : {P Q : Type 0} (r : Result (Unit {0}) OutOfMemory) → (P → Q) → OnOk r P → OnOk r Q
on_ok (Ok u) f h = f h
on_ok (Err e) f h = tt

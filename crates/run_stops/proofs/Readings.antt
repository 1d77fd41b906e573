-- Readings one after another, if the files are told.
use Rattle.std.proofs.Common.{◌≡◌, ℕ, List, ap, refl, sym, subst, Option, Some, None, IfSome, Result, Ok, Err, string_bytes, Bool, true, false, nat_lt, cond, length}
use Rattle.run_stops.specs.declared.input_error.InputError.TheVariants.{TooLarge}
use Rattle.run_stops.specs.declared.stop.Stop.{Stop}
use Rattle.run_stops.specs.declared.stop.Stop.TheVariants as stop
use Rattle.lk_outside.specs.Files.{Files}
use Rattle.run_stops.specs.Reading.{Refusal, of_plan, of_input, behind, Reads, bytes_by}

-- what was told of the files then is told of the files before, which are equal
pub told_back : (P : Files → Type 0) (x y : Option Files) → y ≡ x → IfSome y P → IfSome x P
told_back P x y same h = subst (λ z. IfSome z P) same h

-- what was read, with its second part accepted, had its first part accepted
pub behind_ok : {A B : Type 0} (first : Result A Refusal) (next : A → Result B Refusal) (b : B) → behind first next ≡ Ok b → (a : A) × (first ≡ Ok a) × (next a ≡ Ok b)
behind_ok (Ok a) next b e = (a, refl, e)
behind_ok (Err r) next b e = absurd (cc e)

-- a reading under more names
pub widened : {U B : Type 0} (more : U → B) (named names : List ℕ → Type 0) (r : Result U Stop) (answer : Result B Refusal) → ((q : List ℕ) → named q → names q) → Reads more named r answer → Reads more names r answer
widened more named names (Ok t) answer are h = h
widened more named names (Err (stop.Plan why)) answer are h = h
widened more named names (Err (stop.Input n why)) answer are h = h
widened more named names (Err (stop.Store n)) answer are h = are (string_bytes n) h
widened more named names (Err stop.StoreNoMemory) answer are h = h
widened more named names (Err stop.OutOfMemory) answer are h = h

module _ (A B T V : Type 0) (first : Result A Refusal) (next : A → Result B Refusal) where
  -- the first was refused, or stopped
  pub behind_stops : (value : T → A) (more : V → B) (named names : List ℕ → Type 0) (s : Stop) → ((q : List ℕ) → named q → names q) → Reads value named (Err s) first → Reads more names (Err s) (behind first next)
  behind_stops value more named names (stop.Plan why) are h = subst (λ r. behind r next ≡ Err (of_plan why)) (sym h) refl
  behind_stops value more named names (stop.Input n why) are h = subst (λ r. behind r next ≡ Err (of_input (string_bytes n) why)) (sym h) refl
  behind_stops value more named names (stop.Store n) are h = are (string_bytes n) h
  behind_stops value more named names stop.StoreNoMemory are h = tt
  behind_stops value more named names stop.OutOfMemory are h = tt

  -- the first was read
  pub behind_read : (a : A) → first ≡ Ok a → behind first next ≡ next a
  behind_read a is = ap (λ r. behind r next) is

module _ (A B T U : Type 0) (first : Files → Result A Refusal) (next : Files → A → Result B Refusal) where
  abbrev Whole : Files → Result B Refusal
  Whole files = behind (first files) (next files)

  -- the first reading was refused, or stopped: so is the whole
  pub first_stops : (value : T → A) (more : U → B) (named names : Files → List ℕ → Type 0) (s : Stop) (x : Option Files) → ((u : Files) (q : List ℕ) → named u q → names u q) → IfSome x (λ files. Reads value (named files) (Err s) (first files)) → IfSome x (λ files. Reads more (names files) (Err s) (Whole files))
  first_stops value more named names s None are h = tt
  first_stops value more named names s (Some u) are h = behind_stops A B T U (first u) (next u) value more (named u) (names u) s (are u) h

  -- the first was read, and the second came to this: so did the whole
  pub second_reads : (more : U → B) (named names : Files → List ℕ → Type 0) (a : A) (r : Result U Stop) (x y : Option Files) → y ≡ x → ((u : Files) (q : List ℕ) → first u ≡ Ok a → named u q → names u q) → IfSome x (λ files. first files ≡ Ok a) → IfSome y (λ files. Reads more (named files) r (next files a)) → IfSome x (λ files. Reads more (names files) r (Whole files))
  second_reads more named names a r None y same are had h = tt
  second_reads more named names a r (Some u) y same are had h =
      let here : Reads more (named u) r (next u a) = subst (λ z. IfSome z (λ files. Reads more (named files) r (next files a))) same h in
      subst (λ w. Reads more (names u) r w) (sym (behind_read A B T U (first u) (next u) a had)) (widened more (named u) (names u) r (next u a) (λ q n. are u q had n) here)

pub bytes_by_ok : (name : List ℕ) (limit : ℕ) (o : Option (List ℕ)) (bytes : List ℕ) → bytes_by name limit o ≡ Ok bytes → o ≡ Some bytes
bytes_by_ok name limit None bytes e = absurd cc
bytes_by_ok name limit (Some b) bytes e = ap Some (by (nat_lt limit (length b)) e)
  where
    by : (c : Bool) → cond c (Err (of_input name TooLarge)) (Ok b) ≡ Ok bytes → b ≡ bytes
    by true d = absurd cc
    by false d = cc

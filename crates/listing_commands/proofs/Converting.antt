-- A command that makes one file of another: its meaning is lawful, and its stops and ends are those of the meaning.
use Rattle.std.proofs.Common.{◌≡◌, ◌⊎◌, ℕ, zero, suc, Bool, true, false, List, [], ◌∷◌, refl, sym, ◌∙◌, ap, subst, Option, Some, None, IfSome, Result, Ok, Err, MatchResult, inl, inr, Contains, nat_lt, length, if◌then◌else◌, string_bytes, arith}
use Rattle.run_stops.proofs.Readings.{bytes_by_ok}
use Rattle.lk_outside.specs.Files.{Files, file, AreBytes, Told}
use Rattle.run_stops.specs.declared.input_error.InputError.{InputError}
use Rattle.run_stops.specs.declared.input_error.InputError.TheVariants as refused
use Rattle.run_shell.specs.declared.status.Status.{Status}
use Rattle.run_stops.specs.declared.stop.Stop.{Stop}
use Rattle.run_stops.specs.declared.stop.Stop.TheVariants as stop
use Rattle.run_shell.specs.declared.finished.Finished.{Finished}
use Rattle.run_shell.specs.Outcome.{Outcome, Holds, LeavesOthers}
use Rattle.run_shell.specs.Meaning.{Cause, of_input, of_none, IsMeaning}
use Rattle.run_shell.specs.Ends.{Comes, Ends, Answers, held_status}
use Rattle.run_stops.specs.Reading.{Refusal, Reads, IsOfInput, bytes_by, bytes_in, vec_items}
use Rattle.run_shell.specs.Work.{refused_outcome, IsOfInputs}
use Rattle.run_stops.specs.Reading as reading
use Rattle.run_shell.specs.Writing.{Fills, Writes}
use Rattle.run_stops.proofs.Moves.{told_refl, if_told_by}
use Rattle.run_shell.proofs.Works.{fails_created, fails_first, store_stops, untouched}
use Rattle.listing_commands.specs.Conversion.{Conversion, made_outcome, IsAccepted, IsRefused, Converts, CreatesBy, conversion_meaning, IsConversion, Gives}

-- ---- what was read

-- a file that is not had is no plan
abbrev NoPlan : Result (List ℕ) Refusal → Type 0
NoPlan (Ok bytes) = Unit {0}
NoPlan (Err r) = IsOfInputs r

never-plan : (name : List ℕ) (limit : ℕ) (found : Option (List ℕ)) → NoPlan (bytes_by name limit found)
never-plan name limit None = tt
never-plan name limit (Some content) = by-limit (nat_lt limit (length content))
  where
    by-limit : (t : Bool) → NoPlan (if t then Err (reading.of_input name refused.TooLarge) else Ok content)
    by-limit true = tt
    by-limit false = tt

no-plan : (name : List ℕ) (limit : ℕ) (found : Option (List ℕ)) (r : Refusal) → bytes_by name limit found ≡ Err r → IsOfInputs r
no-plan name limit found r e = subst NoPlan e (never-plan name limit found)

-- ---- the laws

module _ (c : Conversion) (law : IsConversion c) where
  one-of : (bytes : List ℕ) (o p : Outcome) → Converts c bytes o → Converts c bytes p → o ≡ p
  one-of bytes o p (inl (content, count, h, e)) (inl (other, number, k, f)) =
      let (same, as-many) = law.one_made bytes content other count number h k in
      e ∙ ap (λ (x : List ℕ). made_outcome c.created c.counted x count) same ∙ ap (made_outcome c.created c.counted other) as-many ∙ sym f
  one-of bytes o p (inl (content, count, h, e)) (inr (why, k, f)) = absurd (law.not_both bytes (content, count, h) (why, k))
  one-of bytes o p (inr (why, h, e)) (inl (other, number, k, f)) = absurd (law.not_both bytes (other, number, k) (why, h))
  one-of bytes o p (inr (why, h, e)) (inr (other, k, f)) = e ∙ ap (λ (w : InputError). refused_outcome (reading.of_input c.name w)) (law.one_refusal bytes why other h k) ∙ sym f

  abbrev OutcomeBy : Result (List ℕ) Refusal → Outcome → Type 0
  OutcomeBy r o = MatchResult r (λ bytes. Converts c bytes o) (λ e. o ≡ refused_outcome e)

  one-by : (r : Result (List ℕ) Refusal) (o p : Outcome) → OutcomeBy r o → OutcomeBy r p → o ≡ p
  one-by (Ok bytes) o p h k = one-of bytes o p h k
  one-by (Err e) o p h k = h ∙ sym k

  some-of : (bytes : List ℕ) → IsAccepted c bytes ⊎ IsRefused c bytes → (o : Outcome) × Converts c bytes o
  some-of bytes (inl (content, count, h)) = (made_outcome c.created c.counted content count, inl (content, count, h, refl))
  some-of bytes (inr (why, h)) = (refused_outcome (reading.of_input c.name why), inr (why, h, refl))

  some-by : (files : Files) → AreBytes files → (r : Result (List ℕ) Refusal) → bytes_in files c.name c.limit ≡ r → (o : Outcome) × OutcomeBy r o
  some-by files are (Ok bytes) is = some-of bytes (law.either bytes (are c.name bytes (bytes_by_ok c.name c.limit (file files c.name) bytes is)))
  some-by files are (Err e) is = (refused_outcome e, refl)

  abbrev CauseBy : Result (List ℕ) Refusal → Status → Type 0
  CauseBy r s = Cause (Unit {0}) ⊥ (MatchResult r (IsRefused c) IsOfInputs) ⊥ s

  cause-of : (bytes : List ℕ) (o : Outcome) → Converts c bytes o → CauseBy (Ok bytes) o.status
  cause-of bytes o (inl (content, count, h, e)) = subst (λ (p : Outcome). CauseBy (Ok bytes) p.status) (sym e) (of_none (λ x. x) (λ r. law.not_both bytes (content, count, h) r) (λ x. x))
  cause-of bytes o (inr (why, h, e)) = subst (λ (p : Outcome). CauseBy (Ok bytes) p.status) (sym e) (of_input (λ x. x) (why, h) (λ x. x))

  cause-refused : (e : Refusal) → IsOfInputs e → CauseBy (Err e) (refused_outcome e).status
  cause-refused (reading.of_plan why) is = absurd is
  cause-refused (reading.of_input name why) is = of_input (λ x. x) tt (λ x. x)

  cause-by : (files : Files) (r : Result (List ℕ) Refusal) (o : Outcome) → bytes_in files c.name c.limit ≡ r → OutcomeBy r o → CauseBy r o.status
  cause-by files (Ok bytes) o is h = cause-of bytes o h
  cause-by files (Err e) o is h = subst (λ (p : Outcome). CauseBy (Err e) p.status) (sym h) (cause-refused e (no-plan c.name c.limit (file files c.name) e is))

  pub conversion_means : IsMeaning (conversion_meaning c)
  conversion_means = record {
    one_outcome = λ files o p h k. one-by (bytes_in files c.name c.limit) o p h k;
    some_outcome = λ files are. some-by files are (bytes_in files c.name c.limit) refl;
    one_cause = λ files o h. cause-by files (bytes_in files c.name c.limit) o refl h;
  }

-- ---- how it ends

module _ (c : Conversion) where
  -- the file was absent or too large, or reading it stopped
  not-had : (u : Files) (e : Refusal) (x : Option Files) → bytes_in u c.name c.limit ≡ Err e → Answers (conversion_meaning c) u (refused_outcome e).status (refused_outcome e).text x x
  not-had u e x is = record {
    outcome = refused_outcome e;
    is_outcome = subst (λ r. MatchResult r (λ bytes. Converts c bytes (refused_outcome e)) (λ f. refused_outcome e ≡ refused_outcome f)) (sym is) refl;
    status = refl;
    text = refl;
    files = none e;
  }
    where
      none : (f : Refusal) → Told x x (Holds (refused_outcome f).files)
      none (reading.of_plan why) = told_refl (Holds []) x (λ v q. refl)
      none (reading.of_input name why) = told_refl (Holds []) x (λ v q. refl)

  stops-at : (s : Stop) (u : Files) (x : Option Files) → Reads vec_items (λ n. n ≡ c.name) (Err s) (bytes_in u c.name c.limit) → Comes (conversion_meaning c) x x (Err s) u
  stops-at (stop.Plan why) u x h = not-had u (reading.of_plan why) x h
  stops-at (stop.Input n why) u x h = not-had u (reading.of_input (string_bytes n) why) x h
  stops-at (stop.Store n) u x h = ((string_bytes n, fails_first (conversion_meaning c) u (string_bytes n) x (inl h), refl), untouched (conversion_meaning c) u x)
  stops-at stop.StoreNoMemory u x h = (refl, untouched (conversion_meaning c) u x)
  stops-at stop.OutOfMemory u x h = (refl, untouched (conversion_meaning c) u x)

  pub reading_stops : (s : Stop) (x y : Option Files) → y ≡ x → IfSome x (λ files. Reads vec_items (λ n. n ≡ c.name) (Err s) (bytes_in files c.name c.limit)) → IfSome x (Comes (conversion_meaning c) x y (Err s))
  reading_stops s x y same h = subst (λ z. IfSome x (Comes (conversion_meaning c) x z (Err s))) (sym same) (if_told_by x (λ u k. stops-at s u x k) h)

  module _ (bytes : List ℕ) where
    abbrev Had : Files → Type 0
    Had files = bytes_in files c.name c.limit ≡ Ok bytes

    of-bytes : (u : Files) (o : Outcome) → Had u → Converts c bytes o → (conversion_meaning c).IsOutcome u o
    of-bytes u o is h = subst (λ r. MatchResult r (λ b. Converts c b o) (λ e. o ≡ refused_outcome e)) (sym is) h

    to-bytes : (u : Files) (o : Outcome) → Had u → (conversion_meaning c).IsOutcome u o → Converts c bytes o
    to-bytes u o is h = subst (λ r. MatchResult r (λ b. Converts c b o) (λ e. o ≡ refused_outcome e)) is h

    creates-of : (u : Files) (q : List ℕ) → Had u → CreatesBy c q bytes → (conversion_meaning c).Creates u q
    creates-of u q is h = subst (λ r. MatchResult r (CreatesBy c q) (λ e. ⊥)) (sym is) h

    -- the bytes were refused
    refused-so : (s : Stop) (u : Files) (x : Option Files) → Had u → (why : InputError) → c.Refuses bytes why → IsOfInput c.name why s → Comes (conversion_meaning c) x x (Err s) u
    refused-so (stop.Plan p) u x is why h of = absurd of
    refused-so (stop.Input n w) u x is why h of =
        let outcome = refused_outcome (reading.of_input (string_bytes n) w) in
        let same : outcome ≡ refused_outcome (reading.of_input c.name why) =
        ap (λ (a : List ℕ). refused_outcome (reading.of_input a w)) of.0 ∙ ap (λ (a : InputError). refused_outcome (reading.of_input c.name a)) of.1 in
        record {
          outcome = outcome;
          is_outcome = of-bytes u outcome is (inr (why, h, same));
          status = refl;
          text = refl;
          files = told_refl (Holds []) x (λ v q. refl);
        }
    refused-so (stop.Store n) u x is why h of = absurd of
    refused-so stop.StoreNoMemory u x is why h of = absurd of
    refused-so stop.OutOfMemory u x is why h of = (refl, untouched (conversion_meaning c) u x)

    not-made : (s : Stop) (u : Files) (x : Option Files) → Had u → Gives c.name (c.Makes bytes) (c.Refuses bytes) (Err s) → Comes (conversion_meaning c) x x (Err s) u
    not-made s u x is (inl (why, h, of)) = refused-so s u x is why h of
    not-made s u x is (inr e) = subst (λ (z : Stop). Comes (conversion_meaning c) x x (Err z) u) (sym e) (refl, untouched (conversion_meaning c) u x)

    pub answer_stops : (s : Stop) (x y : Option Files) → y ≡ x → IfSome x Had → Gives c.name (c.Makes bytes) (c.Refuses bytes) (Err s) → IfSome x (Comes (conversion_meaning c) x y (Err s))
    answer_stops s x y same is h = subst (λ z. IfSome x (Comes (conversion_meaning c) x z (Err s))) (sym same) (if_told_by x (λ u k. not-made s u x k h) is)

    module _ (law : IsConversion c) (content : List ℕ) (count : ℕ) (made : c.Makes bytes content count) where
      abbrev Only : Outcome → Type 0
      Only o = o ≡ made_outcome c.created c.counted content count

      ends-done : (u : Files) (held : Bool) (text : List ℕ) (x y : Option Files) → Answers (conversion_meaning c) u (held_status held) text x y → Ends (conversion_meaning c) u (held_status held) text x y
      ends-done u true text x y a = a
      ends-done u false text x y a = a

      one-name : (q : List ℕ) → Contains (c.created ∷ []) q → CreatesBy c q bytes
      one-name q (zero, lt, e) = ((content, count, made), sym e)
      one-name q (suc k, lt, e) = absurd (omega arith)

      comes : (r : Result Finished Stop) (u : Files) (x y : Option Files) → Had u → Fills Only (c.created ∷ []) r x y → Comes (conversion_meaning c) x y r u
      comes (Ok f) u x y is h = ends-done u f.held f.text.items x y (record {
        outcome = h.outcome;
        is_outcome = of-bytes u h.outcome is (inl (content, count, made, h.is_outcome));
        status = h.status;
        text = h.text;
        files = h.files;
      })
      comes (Err s) u x y is h =
          store_stops (conversion_meaning c) (Contains (c.created ∷ [])) s u x y h.by_store
          (λ q k. let made = creates-of u q is (one-name q k) in fails_created (conversion_meaning c) u q x y (inr made) made)
          (λ o k. h.part o (one-of c law bytes o (made_outcome c.created c.counted content count) (to-bytes u o is k) (inl (content, count, made, refl))))

      pub writes_comes : (r : Result Finished Stop) (x y z : Option Files) → y ≡ x → IfSome x Had → Writes Only (c.created ∷ []) r y z → IfSome x (Comes (conversion_meaning c) x z r)
      writes_comes r x y z same is h = if_told_by x (λ u k. comes r u x z k (subst (λ v. Fills Only (c.created ∷ []) r v z) same h.fills)) is

      pub writes_leaves : (r : Result Finished Stop) (x y z : Option Files) → y ≡ x → IfSome x Had → Writes Only (c.created ∷ []) r y z → Told x z (LeavesOthers (conversion_meaning c).Creates)
      writes_leaves r x y z same is h = by x z is (subst (λ v. Told v z (LeavesOthers (λ files q. Contains (c.created ∷ []) q))) same h.others)
        where
          by : (a b : Option Files) → IfSome a Had → Told a b (LeavesOthers (λ files q. Contains (c.created ∷ []) q)) → Told a b (LeavesOthers (conversion_meaning c).Creates)
          by None None k t = tt
          by None (Some v) k t = absurd t
          by (Some u) None k t = absurd t
          by (Some u) (Some v) k t = λ q out. t q (λ n. out (creates-of u q k (one-name q n)))

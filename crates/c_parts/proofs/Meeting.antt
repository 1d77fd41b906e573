-- The functions of a block for C meet their contracts, whatever its struct is called.
use mathlib.Core.Path.{◌≡◌, refl}
use mathlib.Core.List.{List, [], ◌∷◌, ◌++◌}
use seplogic.Ra.Ura.{Ura}
use mir.Syntax.{Callee, Sym}
use mir.Val.{Val}
use base.Logic.{ent, emp}
use base.Fml.{Fml, ftrue, fsep}
use prog.Model.{Model}
use prog.Wp.{WpFn, Tables, Closed}
use types.Logic.{Logic}
use contract.Monad.{fact}
use contract.Running.{Running, tables, tables_of}
use sound.WpLaws.{WpFn-mono}
use types.Kit.{move, ‵, raw, ◌⊛◌, ◌$◌, ◌∵◌, !, qed, by, keep, drop, rewrite, join, split, fsplit, fjoin, suffices, done}
use denote.Exit.{Last, yes}
use denote.RattleType.{RattleType}
use denote.RawPtr.{Ptr, null_ptr}
use denote.Param.Laws.{Laws}
use denote.Signature.{plain}
use denote.Steps.{heard, nothing}
use denote.Triple.Clauses.{Ended, Clauses, closing}
use denote.Triple.Spec.{triple_of}
use denote.Triple.Statement.{Triple}
use denote.Triple.Table.{entered}
use denote.Triple.Walked.{says, Stays, Silent, stay_dropped, walk_of, ends_at, Goes-dropped, walk_Meets}
use Rattle.std_alloc.proofs.BoxSteps.Form.{D, B}
use Rattle.std.specs.Prelude.{Option, Some, None, true, is_some}
use Rattle.std.specs.Global.{Global}
use Rattle.std_heap.specs.contracts.Global as Heap
use Rattle.c_parts.proofs.Blocks.{boxed, owned, as_box, moved, moving, started, starting}

abbrev pub ended : RattleType → RattleType → Ended
ended From To = record { signature = record { lifetimes = 0; outlives = []; params = plain (λ κs. From) ∷ []; result = plain (λ κs. To) }; kept = (yes, tt) }

-- a function of one argument that requires nothing
abbrev pub gives : (From To : RattleType) → (From.Denot → To.Denot → Type 0) → {M : Type 1} (𝓤 : Ura M) → Clauses 𝓤 (ended From To)
gives From To Gives 𝓤 = λ κs args. record { ghost = Unit {0}; requires = λ g. emp 𝓤; ensures = λ g r s. fact 𝓤 (Gives args.0 r) }

module _ (X : RattleType) (LX : Laws X) (From To : RattleType) where
  abbrev stayed : Stays (ended From To).signature.params (ended From To).kept
  stayed = (stay_dropped (plain (λ _. From)) yes, tt)

  module _ (last : (x : From.Denot) → Last (From.exit yes) x) (of_box : From.Denot → D (boxed X LX)) (opens : (x : From.Denot) (vs : List Val) → From.own_val x vs ≡ (B (boxed X LX)).own_val (of_box x) vs)
      (made : From.Denot → To.Denot) (Gives : From.Denot → To.Denot → Type 0) (given : (x : From.Denot) → Gives x (made x))
      (same : (x : From.Denot) (vs : List Val) → (B (boxed X LX)).own_val (of_box x) vs ≡ To.own_val (made x) vs) where
    module _ {M : Type 1} {𝓤 : Ura M} (𝓛 : Logic 𝓤) (𝓣 : Tables 𝓤 𝓛.H) where
      open 𝓛 use {H}

      walk : (to from : Sym) (z : (walk_of 𝓛 (ended From To) stayed (gives From To Gives 𝓤)).Ghost)
          → ent 𝓤 ((walk_of 𝓛 (ended From To) stayed (gives From To Gives 𝓤)).pre z) (WpFn 𝓤 H 𝓣.C 𝓣.Λ (moving to from) (z.0.4.0 ++ []) ((walk_of 𝓛 (ended From To) stayed (gives From To Gives 𝓤)).post z))
      walk to from z =
          let x = z.0.3.0 in
          qed 𝓛 ((‵ ftrue ⊛ ‵ (fsep (From.own_val x z.0.4.0) ftrue)) ∷ raw (emp 𝓤) ∷ []) ∵ split ! $ drop ! $ fsplit ! $ keep ! (0 ∷ []) $ rewrite ! 0 (λ (P : Fml). ‵ P) (opens x z.0.4.0) refl $
          by ! (moved X LX 𝓛 𝓣 to from (of_box x) z.0.4.0 ((walk_of 𝓛 (ended From To) stayed (gives From To Gives 𝓤)).post z) (λ w.
          qed 𝓛 (‵ ((B (boxed X LX)).own_val (of_box x) (w ∷ [])) ∷ []) ∵ rewrite ! 0 (λ (P : Fml). ‵ P) (same x (w ∷ [])) refl $
          suffices ! _ (ends_at 𝓛 (ended From To) stayed (gives From To Gives 𝓤) z w (made x) (last x, tt) (tt, tt)) $ says ! (given x) $
          nothing ! $ nothing ! $ fjoin ! $ join ! $ nothing ! $ join ! $ done !))

    module _ {M : Type 1} (𝓤 : Ura M) (𝓛 : Logic 𝓤) (𝓜 : Model 𝓤 𝓛.H) (𝓡 : Running 𝓤 𝓛.H 𝓜) where
      pub of_met : Silent 𝓛 0 (plain (λ κs. From)) yes → (key : Callee) (to from : Sym) → Closed 𝓤 𝓛.H (tables 𝓤 𝓛.H 𝓜 𝓡 𝓡.env).C (tables 𝓤 𝓛.H 𝓜 𝓡 𝓡.env).Λ key (moving to from)
          → Triple 𝓤 ((tables 𝓤 𝓛.H 𝓜 𝓡 𝓡.env).C key) (triple_of 𝓛 (ended From To).signature (closing 𝓛 (ended From To) (gives From To Gives 𝓤)))
      unfolding tables_of
      of_met silent key to from closed =
          let 𝓣 : Tables 𝓤 𝓛.H = tables_of 𝓤 𝓛.H 𝓜 (tables 𝓤 𝓛.H 𝓜 𝓡 𝓡.env) in
          entered 𝓤 𝓛.H (triple_of 𝓛 (ended From To).signature (closing 𝓛 (ended From To) (gives From To Gives 𝓤))) 𝓣.C 𝓣.Λ key (moving to from) closed
          (walk_Meets 𝓛 (ended From To) stayed (Goes-dropped 𝓛 0 (plain (λ _. From)) yes silent, tt) (gives From To Gives 𝓤) (WpFn 𝓤 𝓛.H 𝓣.C 𝓣.Λ (moving to from)) (WpFn-mono 𝓤 𝓛.H 𝓛.laws 𝓣 (moving to from))
          (walk 𝓛 𝓣 to from))

-- a function of one argument that requires a fact of it
abbrev pub gives_if : (From To : RattleType) → (From.Denot → Type 0) → (From.Denot → To.Denot → Type 0) → {M : Type 1} (𝓤 : Ura M) → Clauses 𝓤 (ended From To)
gives_if From To Needs Gives 𝓤 = λ κs args. record { ghost = Unit {0}; requires = λ g. fact 𝓤 (Needs args.0); ensures = λ g r s. fact 𝓤 (Gives args.0 r) }

module _ (X : RattleType) (LX : Laws X) (From To : RattleType) where
  abbrev stayed_if : Stays (ended From To).signature.params (ended From To).kept
  stayed_if = (stay_dropped (plain (λ _. From)) yes, tt)

  module _ (last : (x : From.Denot) → Last (From.exit yes) x) (ptr : From.Denot → Ptr) (alloc : From.Denot → Global) (held : From.Denot → Option X.Denot)
      (opens : (x : From.Denot) (vs : List Val) → From.own_val x vs ≡ owned X LX (ptr x) (alloc x) (held x) vs)
      (made : D (boxed X LX) → To.Denot) (Gives : From.Denot → To.Denot → Type 0)
      (given : (x : From.Denot) (d : X.Denot) → held x ≡ Some d → Gives x (made (record { ptr = ptr x; alloc = alloc x; value = d })))
      (same : (d : D (boxed X LX)) (vs : List Val) → (B (boxed X LX)).own_val d vs ≡ To.own_val (made d) vs) where
    abbrev Needs : From.Denot → Type 0
    Needs x = is_some (held x) ≡ true

    module _ {M : Type 1} {𝓤 : Ura M} (𝓛 : Logic 𝓤) (𝓣 : Tables 𝓤 𝓛.H) where
      open 𝓛 use {H}

      walk_if : (to from : Sym) (z : (walk_of 𝓛 (ended From To) stayed_if (gives_if From To Needs Gives 𝓤)).Ghost)
          → ent 𝓤 ((walk_of 𝓛 (ended From To) stayed_if (gives_if From To Needs Gives 𝓤)).pre z) (WpFn 𝓤 H 𝓣.C 𝓣.Λ (moving to from) (z.0.4.0 ++ []) ((walk_of 𝓛 (ended From To) stayed_if (gives_if From To Needs Gives 𝓤)).post z))
      walk_if to from z =
          let x = z.0.3.0 in
          qed 𝓛 ((‵ ftrue ⊛ ‵ (fsep (From.own_val x z.0.4.0) ftrue)) ∷ raw (fact 𝓤 (Needs x)) ∷ []) ∵ move ! (1 ∷ []) $ heard ! (Needs x) (λ some. split ! $ drop ! $ fsplit ! $ keep ! (0 ∷ []) $ rewrite ! 0 (λ (P : Fml). ‵ P) (opens x z.0.4.0) refl $
          as_box X LX ! (ptr x) (alloc x) z.0.4.0 (held x) some (λ d is.
          let b : D (boxed X LX) = record { ptr = ptr x; alloc = alloc x; value = d } in
          by ! (moved X LX 𝓛 𝓣 to from b z.0.4.0 ((walk_of 𝓛 (ended From To) stayed_if (gives_if From To Needs Gives 𝓤)).post z) (λ w.
          qed 𝓛 (‵ ((B (boxed X LX)).own_val b (w ∷ [])) ∷ []) ∵ rewrite ! 0 (λ (P : Fml). ‵ P) (same b (w ∷ [])) refl $
          suffices ! _ (ends_at 𝓛 (ended From To) stayed_if (gives_if From To Needs Gives 𝓤) z w (made b) (last x, tt) (tt, tt)) $ says ! (given x d is) $
          nothing ! $ nothing ! $ fjoin ! $ join ! $ nothing ! $ join ! $ done !))))

    module _ {M : Type 1} (𝓤 : Ura M) (𝓛 : Logic 𝓤) (𝓜 : Model 𝓤 𝓛.H) (𝓡 : Running 𝓤 𝓛.H 𝓜) where
      pub into_met : Silent 𝓛 0 (plain (λ κs. From)) yes → (key : Callee) (to from : Sym) → Closed 𝓤 𝓛.H (tables 𝓤 𝓛.H 𝓜 𝓡 𝓡.env).C (tables 𝓤 𝓛.H 𝓜 𝓡 𝓡.env).Λ key (moving to from)
          → Triple 𝓤 ((tables 𝓤 𝓛.H 𝓜 𝓡 𝓡.env).C key) (triple_of 𝓛 (ended From To).signature (closing 𝓛 (ended From To) (gives_if From To Needs Gives 𝓤)))
      unfolding tables_of
      into_met silent key to from closed =
          let 𝓣 : Tables 𝓤 𝓛.H = tables_of 𝓤 𝓛.H 𝓜 (tables 𝓤 𝓛.H 𝓜 𝓡 𝓡.env) in
          entered 𝓤 𝓛.H (triple_of 𝓛 (ended From To).signature (closing 𝓛 (ended From To) (gives_if From To Needs Gives 𝓤))) 𝓣.C 𝓣.Λ key (moving to from) closed
          (walk_Meets 𝓛 (ended From To) stayed_if (Goes-dropped 𝓛 0 (plain (λ _. From)) yes silent, tt) (gives_if From To Needs Gives 𝓤) (WpFn 𝓤 𝓛.H 𝓣.C 𝓣.Λ (moving to from)) (WpFn-mono 𝓤 𝓛.H 𝓛.laws 𝓣 (moving to from))
          (walk_if 𝓛 𝓣 to from))

module _ (X : RattleType) (LX : Laws X) (To : RattleType) where
  abbrev From : RattleType
  From = Heap.the_row

  abbrev stayed_none : Stays (ended From To).signature.params (ended From To).kept
  stayed_none = (stay_dropped (plain (λ _. From)) yes, tt)

  module _ (made : Global → To.Denot) (Gives : Global → To.Denot → Type 0) (given : (a : Global) → Gives a (made a))
      (same : (a : Global) (vs : List Val) → owned X LX null_ptr a None vs ≡ To.own_val (made a) vs) where
    module _ {M : Type 1} {𝓤 : Ura M} (𝓛 : Logic 𝓤) (𝓣 : Tables 𝓤 𝓛.H) where
      open 𝓛 use {H}

      walk_none : (to : Sym) (z : (walk_of 𝓛 (ended From To) stayed_none (gives From To Gives 𝓤)).Ghost)
          → ent 𝓤 ((walk_of 𝓛 (ended From To) stayed_none (gives From To Gives 𝓤)).pre z) (WpFn 𝓤 H 𝓣.C 𝓣.Λ (starting to) (z.0.4.0 ++ []) ((walk_of 𝓛 (ended From To) stayed_none (gives From To Gives 𝓤)).post z))
      walk_none to z =
          let a = z.0.3.0 in
          qed 𝓛 ((‵ ftrue ⊛ ‵ (fsep (From.own_val a z.0.4.0) ftrue)) ∷ raw (emp 𝓤) ∷ []) ∵ split ! $ drop ! $ fsplit ! $ keep ! (0 ∷ []) $
          by ! (started X LX 𝓛 𝓣 to a z.0.4.0 ((walk_of 𝓛 (ended From To) stayed_none (gives From To Gives 𝓤)).post z) (λ w.
          qed 𝓛 (‵ (owned X LX null_ptr a None (w ∷ [])) ∷ []) ∵ rewrite ! 0 (λ (P : Fml). ‵ P) (same a (w ∷ [])) refl $
          suffices ! _ (ends_at 𝓛 (ended From To) stayed_none (gives From To Gives 𝓤) z w (made a) (tt, tt) (tt, tt)) $ says ! (given a) $
          nothing ! $ nothing ! $ fjoin ! $ join ! $ nothing ! $ join ! $ done !))

    module _ {M : Type 1} (𝓤 : Ura M) (𝓛 : Logic 𝓤) (𝓜 : Model 𝓤 𝓛.H) (𝓡 : Running 𝓤 𝓛.H 𝓜) where
      pub absent_met : (key : Callee) (to : Sym) → Closed 𝓤 𝓛.H (tables 𝓤 𝓛.H 𝓜 𝓡 𝓡.env).C (tables 𝓤 𝓛.H 𝓜 𝓡 𝓡.env).Λ key (starting to)
          → Triple 𝓤 ((tables 𝓤 𝓛.H 𝓜 𝓡 𝓡.env).C key) (triple_of 𝓛 (ended From To).signature (closing 𝓛 (ended From To) (gives From To Gives 𝓤)))
      unfolding tables_of
      absent_met key to closed =
          let 𝓣 : Tables 𝓤 𝓛.H = tables_of 𝓤 𝓛.H 𝓜 (tables 𝓤 𝓛.H 𝓜 𝓡 𝓡.env) in
          entered 𝓤 𝓛.H (triple_of 𝓛 (ended From To).signature (closing 𝓛 (ended From To) (gives From To Gives 𝓤))) 𝓣.C 𝓣.Λ key (starting to) closed
          (walk_Meets 𝓛 (ended From To) stayed_none (Goes-dropped 𝓛 0 (plain (λ _. From)) yes (λ κs x f. refl), tt) (gives From To Gives 𝓤) (WpFn 𝓤 𝓛.H 𝓣.C 𝓣.Λ (starting to)) (WpFn-mono 𝓤 𝓛.H 𝓛.laws 𝓣 (starting to))
          (walk_none 𝓛 𝓣 to))

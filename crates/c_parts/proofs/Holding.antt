-- What a call does by a handle that has something.
use Rattle.std.proofs.Common.{◌≡◌, Option, Some, sym, subst}
use Rattle.c_parts.specs.OnHeld.{OnHeld}

pub on_held : {X : Type 0} (absent : Type 0) (present : X → X → Type 0) (o n : Option X) (s t : X) → o ≡ Some s → n ≡ Some t → present s t → OnHeld absent present o n
on_held absent present o n s t was is h = subst (λ p. OnHeld absent present p n) (sym was) (subst (λ p. OnHeld absent present (Some s) p) (sym is) h)

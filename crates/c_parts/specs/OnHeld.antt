-- What holds of what a handle has.
use Rattle.std.specs.Prelude.{Option, Some, None}

-- what holds where a handle has nothing, before and after, and where it has something; nothing is made and nothing is lost
abbrev pub OnHeld : {X : Type 0} → Type 0 → (X → X → Type 0) → Option X → Option X → Type 0
OnHeld absent present None None = absent
OnHeld absent present (Some s) (Some t) = present s t
OnHeld absent present None (Some t) = ⊥
OnHeld absent present (Some s) None = ⊥

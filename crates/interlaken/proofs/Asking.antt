-- From a request to the words that ask for it.
use Rattle.std.proofs.Common.{◌≡◌, ℕ, refl, subst, Option, Some, None, IsSome, IsNone}
use Rattle.lk_outside.specs.Files.{Files}
use Rattle.run_shell.specs.Ended.{Ended}
use Rattle.run_shell.specs.Ending.{IsEnding, IsMisused}
use Rattle.run_shell.proofs.Endings.{asked_ends, misused_ends}
use Rattle.interlaken.specs.declared.request.Request.{Request}
use Rattle.interlaken.specs.Meanings.{meaning_of, meaning_by}

-- an ending for what words ask for
abbrev EndsFor : Option Request → Ended → ℕ → ℕ → Option Files → Option Files → Type 0
EndsFor a e sb sa x y = IsEnding (IsSome a) (meaning_by a) e sb sa x y

pub some_ends : (a : Option Request) (r : Request) (e : Ended) (sb sa : ℕ) (x y : Option Files) → Some r ≡ a → IsEnding (Unit {0}) (meaning_of r) e sb sa x y → IsEnding (IsSome a) (meaning_by a) e sb sa x y
some_ends a r e sb sa x y is h = subst (λ (b : Option Request). EndsFor b e sb sa x y) is (asked_ends (IsSome (Some r)) refl (meaning_of r) e sb sa x y h)

pub none_some : IsSome {T = Request} None → ⊥
none_some e = cc

pub none_ends : (a : Option Request) (e : Ended) (sb : ℕ) (x : Option Files) → None ≡ a → IsMisused e → IsEnding (IsSome a) (meaning_by a) e sb sb x x
none_ends a e sb x is h = subst (λ (b : Option Request). EndsFor b e sb sb x x) is (misused_ends (IsSome {T = Request} None) e sb x none_some h)

pub not_some : (a : Option Request) → (IsSome a → ⊥) → IsNone a
not_some None none = refl
not_some (Some r) none = absurd (none refl)

pub not_none : (a : Option Request) → IsNone a → IsSome a → ⊥
not_none None none some = cc
not_none (Some r) none some = cc

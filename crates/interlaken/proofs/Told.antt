-- What is said of a run of given words where the store tells its files.
use Rattle.std.proofs.Common.{◌≡◌, inl, inr, ℕ, List, subst, Option, Some, None, IfSome}
use Rattle.lk_outside.specs.Files.{Files}
use Rattle.run_shell.specs.declared.status.Status.{Status}
use Rattle.run_shell.specs.Outcome.{Outcome, IsAnswer}
use Rattle.run_shell.specs.Run.{Found, Settles}
use Rattle.interlaken.specs.declared.request.Request.{Request}
use Rattle.interlaken.specs.Request.{request_of}
use Rattle.interlaken.specs.Meanings.{meaning_of, meaning_by as meaning_for}
use Rattle.interlaken.specs.Run.{OutcomeOf}
use Rattle.interlaken.specs.Answered.{IsAnswered}

-- an outcome of words is one of what they ask for
pub asked_for : (words : List (List ℕ)) (r : Request) (u : Files) (o : Outcome) → request_of words ≡ Some r → OutcomeOf words u o → (meaning_of r).IsOutcome u o
asked_for words r u o asks of = subst (λ (a : Option Request). (meaning_for a).IsOutcome u o) asks of

-- each outcome has the status that was answered, and its files stand
pub is_answered : (o : Outcome) (status : Status) (x y : Option Files) → IsAnswer status → Settles o status x y → IsAnswered o status x y
is_answered o status x y answer s = record { status = elim s.answer [ inl e ↦ e | inr fault ↦ absurd (answer fault) ]; stands = s.done answer }

-- wherever the store tells its files
pub told : (Says : Files → Option Files → Type 0) (words : List (List ℕ)) (status : Status) (x y : Option Files)
    → ((u : Files) → (IsAnswer status → Found (OutcomeOf words u) status) → ((o : Outcome) → OutcomeOf words u o → Settles o status x y) → Says u x)
    → IfSome x (λ files. IsAnswer status → Found (OutcomeOf words files) status) → IfSome x (λ files. (o : Outcome) → OutcomeOf words files o → Settles o status x y) → IfSome x (λ files. Says files x)
told Says words status None y at f s = tt
told Says words status (Some u) y at f s = at u f s

-- What is sent is sent while its channel is on.
use Rattle.std.proofs.Common.{◌≡◌, ℕ, List, subst, Option, Some, None, IfSome}
use Rattle.lk_base.specs.declared.word.Word.{Word}
use Rattle.lk_outside.specs.Files.{Files}
use Rattle.run_shell.specs.declared.status.Status.{Status}
use Rattle.run_shell.specs.Outcome.{Output, Outcome, IsAnswer}
use Rattle.run_shell.specs.Run.{Found, Settles}
use Rattle.run_shell.proofs.Works.{made_of}
use Rattle.plan_inputs.specs.Inputs.{Reading}
use Rattle.stream_commands.specs.Plan.{IsOfPlan, burst_plan_work, send_plan_work}
use Rattle.stream_commands.specs.Off.{NoBurstWhenOff}
use Rattle.stream_commands.proofs.NoBurstWhenOff.{burst_never, send_never}
use Rattle.interlaken.specs.declared.request.Request.{Request}
use Rattle.interlaken.specs.Meanings.{meaning_by as meaning_for}
use Rattle.interlaken.specs.Run.{OutcomeOf}
use Rattle.interlaken.specs.Off.{SendsWhenOn, BurstsWhenOn, LanesWhenOn}

-- of an outcome with its stream
sends : (made : List Word → List Output → Type 0) (words : List (List ℕ)) (u : Files) (i : Reading) (status : Status) (x y : Option Files) (o : Outcome) → OutcomeOf words u o → status ≡ o.status → Settles o status x y → IsAnswer status
    → ((w : List Word) × IsOfPlan made i w o × NoBurstWhenOff i.plan.entries i.inputs.flow w) → SendsWhenOn made words u i status x y
sends made words u i status x y o w s settles answer (stream, of, never) = record {
  outcome = o;
  is_outcome = w;
  status = s;
  stands = settles.done answer;
  stream = stream;
  of_plan = of;
  never = never;
}

bursts_at : (words : List (List ℕ)) (u : Files) (status : Status) (x y : Option Files) → (IsAnswer status → Found (OutcomeOf words u) status) → ((o : Outcome) → OutcomeOf words u o → Settles o status x y) → BurstsWhenOn words u status x y
bursts_at words u status x y found settled name i asks is answer =
    let (o, w, s) = found answer in
    sends _ words u i status x y o w s (settled o w) answer
    (burst_never name i o (made_of (burst_plan_work name) u i o is (subst (λ (a : Option Request). (meaning_for a).IsOutcome u o) asks w)))

lanes_at : (words : List (List ℕ)) (u : Files) (status : Status) (x y : Option Files) → (IsAnswer status → Found (OutcomeOf words u) status) → ((o : Outcome) → OutcomeOf words u o → Settles o status x y) → LanesWhenOn words u status x y
lanes_at words u status x y found settled name i asks is answer =
    let (o, w, s) = found answer in
    sends _ words u i status x y o w s (settled o w) answer
    (send_never name i o (made_of (send_plan_work name) u i o is (subst (λ (a : Option Request). (meaning_for a).IsOutcome u o) asks w)))

pub bursts_when_on : (words : List (List ℕ)) (status : Status) (x y : Option Files) → IfSome x (λ files. IsAnswer status → Found (OutcomeOf words files) status) → IfSome x (λ files. (o : Outcome) → OutcomeOf words files o → Settles o status x y) → IfSome x (λ files. BurstsWhenOn words files status x y)
bursts_when_on words status None y f s = tt
bursts_when_on words status (Some u) y f s = bursts_at words u status (Some u) y f s

pub lanes_when_on : (words : List (List ℕ)) (status : Status) (x y : Option Files) → IfSome x (λ files. IsAnswer status → Found (OutcomeOf words files) status) → IfSome x (λ files. (o : Outcome) → OutcomeOf words files o → Settles o status x y) → IfSome x (λ files. LanesWhenOn words files status x y)
lanes_when_on words status None y f s = tt
lanes_when_on words status (Some u) y f s = lanes_at words u status (Some u) y f s

-- What `resend FILE` comes to is lawful.
use Rattle.std.proofs.Common.{◌≡◌, inr, ℕ, List, Option, Some, None, Ok, refl, ap, ◌∙◌, subst}
use Rattle.lk_base.specs.declared.word.Word.{Word}
use Rattle.lk_outside.specs.Files.{Files, AreBytes}
use Rattle.link_plan.specs.Plan.{PlanValue}
use Rattle.plan_errors.specs.declared.error.PlanError.{PlanError}
use Rattle.stream_model.specs.BurstStream.{Source, IsBurstStream}
use Rattle.run_shell.specs.Meaning.{IsMeaning}
use Rattle.run_shell.specs.Outcome.{Outcome}
use Rattle.run_shell.specs.Work.{IsWork}
use Rattle.run_shell.proofs.Works.{is_meaning}
use Rattle.run_stops.proofs.Readings.{behind_ok}
use Rattle.plan_inputs.specs.Inputs.{plan_in, inputs_in}
use Rattle.plan_inputs.specs.Sources.{IsSourceOf}
use Rattle.plan_inputs.proofs.SomeSource.{some_source}
use Rattle.plan_inputs.proofs.PlanStream.{some_plan_stream}
use Rattle.retransmit.proofs.Cutting.{some_cut}
use Rattle.resend_commands.specs.Resent.{outcome_of, state_of}
use Rattle.resend_commands.specs.Plan.{ResendReading, IsPlanResent}
use Rattle.resend_commands.specs.Reading.{refusal_of, unless_refused, resend_plan_in, events_in, reading_of, with_events, with_inputs, resend_in}
use Rattle.resend_commands.specs.Command.{resend_work, resend_meaning}
use Rattle.resend_commands.proofs.PlanResent.{one_outcome}

-- a plan that is not refused is the plan
unrefused : (why : Option PlanError) (plan accepted : PlanValue) → unless_refused why plan ≡ Ok accepted → plan ≡ accepted
unrefused None plan accepted e = cc
unrefused (Some why) plan accepted e = absurd cc

-- a plan for this command is one that was accepted
pub accepted_plan : (files : Files) (name : List ℕ) (plan : PlanValue) → resend_plan_in files name ≡ Ok plan → plan_in files name ≡ Ok plan
unfolding resend_plan_in
accepted_plan files name plan e =
    let (first, had, next) = behind_ok (plan_in files name) (λ p. unless_refused (refusal_of p) p) plan e in
    had ∙ ap Ok (unrefused (refusal_of first) first plan next)

-- the stream of a plan and its inputs comes to an outcome
stream_outcome : (i : ResendReading) (source : Source) (words : List Word) → IsSourceOf i.reading.plan i.reading.inputs source → IsBurstStream source words → (o : Outcome) × IsPlanResent i o
stream_outcome i source words is stream =
    let (pieces, cut) = some_cut words in (
      outcome_of i.reading.plan.out pieces (state_of pieces i.window i.rows),
      record { source = source; is_source = is; words = words; stream = stream; resent = record { pieces = pieces; cut = cut; outcome = refl } },
    )

some_outcome : (files : Files) (name : List ℕ) → AreBytes files → (i : ResendReading) → resend_in files name ≡ Ok i → (o : Outcome) × IsPlanResent i o
unfolding resend_in
some_outcome files name are i e =
    let (plan, had, next) = behind_ok (resend_plan_in files name) (with_inputs files) i e in
    let (inputs, read, last) = behind_ok (inputs_in files plan) (with_events plan files) i next in
    let (rows, told, all) = behind_ok (events_in files plan) (λ rows. Ok (reading_of plan inputs rows)) i last in
    let same : reading_of plan inputs rows ≡ i = cc in
    let (source, is) = some_source files name plan inputs (accepted_plan files name plan had) in
    let (words, stream) = some_plan_stream files plan inputs source are read is in
    subst (λ (r : ResendReading). (o : Outcome) × IsPlanResent r o) same (stream_outcome (reading_of plan inputs rows) source words is stream)

pub resend_is_work : (name : List ℕ) → IsWork (resend_work name)
resend_is_work name = record {
  one_made = λ i o p h k. one_outcome i o p h k;
  some_made = λ files are i is. some_outcome files name are i is;
  made_status = λ i o h. inr (ap (λ (x : Outcome). x.status) h.resent.outcome, λ (x : ⊥). x);
}

pub resend_means : (name : List ℕ) → IsMeaning (resend_meaning name)
resend_means name = is_meaning (resend_work name) (resend_is_work name)

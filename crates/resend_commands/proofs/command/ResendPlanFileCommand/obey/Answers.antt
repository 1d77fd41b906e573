use Rattle.std.proofs.Common.{subst, List, [], ◌∷◌, string_bytes}
use Rattle.std.proofs.lemmas.Result.{err_from_is_err_and}
use Rattle.run_shell.specs.Writing.{Writes}
use Rattle.plan_inputs.specs.Values.{reading_value}
use Rattle.resend_events.specs.declared.row.EventRow.{EventRow}
use Rattle.run_shell.proofs.Writing.{writes_comes, writes_leaves}
use Rattle.run_shell.proofs.Works.{reading_ends}
use Rattle.run_shell.proofs.OutputNames.{one_name}
use Rattle.run_shell.specs.Names.{words_name}
use Rattle.resend_commands.specs.Reading.{IsResendRead}
use Rattle.resend_commands.specs.Values.{resend_value}
use Rattle.resend_commands.specs.Plan.{IsPlanResent}
use Rattle.resend_commands.specs.Command.{resend_work}
use Rattle.resend_commands.specs.declared.reading.ResendInputs.{ResendInputs}
use Rattle.resend_commands.proofs.Work.{resend_means}
use Rattle.resend_commands.proofs.command.ResendPlanFileCommand.obey.Goals as goal

pub returns-in_err-inputs-clause-lawful : goal.returns-in_err-inputs-clause-lawful
returns-in_err-inputs-clause-lawful g c = resend_means c.args.file.now

pub returns-clause-lawful : goal.returns-clause-lawful
returns-clause-lawful g c = resend_means c.args.file.now

pub returns-in_err-inputs-clause-comes : goal.returns-in_err-inputs-clause-comes
returns-in_err-inputs-clause-comes g c =
    let p = err_from_is_err_and c.from_residual.result c.from_residual.ensures.1 in
    rw (p.1, p.2) (reading_ends ResendInputs (resend_work c.args.file.now) resend_value (λ files. IsResendRead files c.args.file.now) c.in_err-inputs.field-0.0 _ _ c.in_err-inputs.ensures.unchanged (λ u q h. h) c.in_err-inputs.ensures.reads)

pub returns-clause-comes : goal.returns-clause-comes
returns-clause-comes g c =
    let name = c.args.file.now in
    let out = string_bytes c.in_ok-inputs.inputs.reading.plan.out in
    writes_comes (resend_work name) (resend_value c.in_ok-inputs.inputs) (words_name out ∷ []) (λ q h. one_name (words_name out) q h) c.write_plan-finished.result _ _ _ c.in_ok-inputs.ensures.unchanged c.in_ok-inputs.ensures.reads
    (subst (λ (rows : List EventRow). Writes (IsPlanResent (record { reading = reading_value c.in_ok-inputs.inputs.reading; window = c.in_ok-inputs.inputs.reading.plan.window; rows = rows })) (words_name out ∷ []) c.write_plan-finished.result (g.S.Store.files c.read_resend.new.store) (g.S.Store.files c.write_plan-finished.new.store)) c.deref.ensures.value c.write_plan-finished.ensures.writes)

pub returns-clause-others : goal.returns-clause-others
returns-clause-others g c =
    let name = c.args.file.now in
    let out = string_bytes c.in_ok-inputs.inputs.reading.plan.out in
    writes_leaves (resend_work name) (resend_value c.in_ok-inputs.inputs) (words_name out ∷ []) (λ q h. one_name (words_name out) q h) c.write_plan-finished.result _ _ _ c.in_ok-inputs.ensures.unchanged c.in_ok-inputs.ensures.reads
    (subst (λ (rows : List EventRow). Writes (IsPlanResent (record { reading = reading_value c.in_ok-inputs.inputs.reading; window = c.in_ok-inputs.inputs.reading.plan.window; rows = rows })) (words_name out ∷ []) c.write_plan-finished.result (g.S.Store.files c.read_resend.new.store) (g.S.Store.files c.write_plan-finished.new.store)) c.deref.ensures.value c.write_plan-finished.ensures.writes)

pub returns-in_err-inputs-clause-cause : goal.returns-in_err-inputs-clause-cause
returns-in_err-inputs-clause-cause g c =
    let p = err_from_is_err_and c.from_residual.result c.from_residual.ensures.1 in
    rw (p.1, p.2) c.in_err-inputs.ensures.cause

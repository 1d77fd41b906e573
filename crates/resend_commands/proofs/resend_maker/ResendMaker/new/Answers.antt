use Rattle.std.proofs.Common.{sym, ap, subst, ℕ}
use Rattle.plan_inputs.specs.Values.{reading_value}
use Rattle.resend_commands.specs.Carried.{IsBegun}
use Rattle.resend_commands.specs.Values.{reading_with}
use Rattle.resend_commands.proofs.Makers.{fresh_gave}
use Rattle.resend_commands.proofs.PlanResent.{begun_window}
use Rattle.resend_commands.proofs.resend_maker.ResendMaker.new.Goals as goal

pub returns-clause-inputs : goal.returns-clause-inputs
returns-clause-inputs c =
    let r = c.args.reading.now in
    ap (λ (w : ℕ). reading_with r w c.args.rows.now) (begun_window (reading_value r) c.args.window c.in_ok-resend.resend c.in_ok-resend.ensures)

pub returns-clause-fresh : goal.returns-clause-fresh
returns-clause-fresh c =
    let r = c.args.reading.now in
    let start = c.in_ok-resend.resend in
    let begun = c.in_ok-resend.ensures in
    fresh_gave (reading_with r start.window c.args.rows.now) start (subst (λ (w : ℕ). IsBegun (reading_value r) w start) (sym (begun_window (reading_value r) c.args.window start begun)) begun) c.requires.few

use Rattle.std.proofs.Common.{◌∙◌, List, ℕ, ap, sym}
use Rattle.run_shell.specs.Outputs.{more}
use Rattle.run_shell.specs.Rests.{rests_of}
use Rattle.run_shell.proofs.Rests.{more_none}
use Rattle.check_commands.proofs.Tables.{no_faults}
use Rattle.check_commands.proofs.fault_maker.give_rows.Goals as goal

pub returns-then-is_empty-clause-given : goal.returns-then-is_empty-clause-given
returns-then-is_empty-clause-given c =
    sym (ap (λ (b : List ℕ). more (rests_of c.args.outputs.now) 0 b) (no_faults c.args.faults.now (sym c.is_empty.ensures ∙ c.if-is_empty.true)) ∙ more_none (rests_of c.args.outputs.now) 0)

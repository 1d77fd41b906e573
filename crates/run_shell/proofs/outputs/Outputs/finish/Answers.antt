use Rattle.std.proofs.Common.{rules}
use Rattle.run_shell.proofs.outputs.Outputs.finish.Goals as goal

pub append_rests-requires-clause-open : goal.append_rests-requires-clause-open
append_rests-requires-clause-open g c = search rules

pub returns-clause-closed : goal.returns-clause-closed
returns-clause-closed g c = search rules

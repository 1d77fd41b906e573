use Rattle.inspect_commands.proofs.Inspects.{is_work, one_inspected}
use Rattle.inspect_commands.proofs.laws.inspect_is_work.Goals as goal

pub returns : goal.returns
returns c = record { work = is_work; determined = one_inspected }

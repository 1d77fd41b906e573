use Rattle.gather_commands.proofs.Gathers.{is_work, one_gathered}
use Rattle.gather_commands.proofs.laws.gather_is_work.Goals as goal

pub returns : goal.returns
returns c = record { work = is_work; determined = one_gathered }

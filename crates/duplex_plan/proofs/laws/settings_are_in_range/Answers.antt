use Rattle.duplex_plan.proofs.InRange.{in_range}
use Rattle.duplex_plan.proofs.laws.settings_are_in_range.Goals as goal

pub returns : goal.returns
returns c = in_range

use Rattle.duplex.proofs.TwoEndsHold.{two_ends_run}
use Rattle.duplex.proofs.laws.worked_run.Goals as goal

pub returns : goal.returns
returns c = two_ends_run

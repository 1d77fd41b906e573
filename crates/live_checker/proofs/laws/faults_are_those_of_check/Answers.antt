-- Proved above.
use Rattle.live_checker.proofs.Called.{on_calls}
use Rattle.live_checker.proofs.laws.faults_are_those_of_check.Goals as goal

pub returns : goal.returns
returns c = on_calls

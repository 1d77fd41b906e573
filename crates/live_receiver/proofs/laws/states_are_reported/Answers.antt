-- The law on states and reports.
use Rattle.live_receiver.proofs.DeclaredLocks.{states_are_reported}
use Rattle.live_receiver.proofs.laws.states_are_reported.Goals as goal

pub returns : goal.returns
returns c = states_are_reported

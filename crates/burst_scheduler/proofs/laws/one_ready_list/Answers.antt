-- The ring of ready channels is one.
use Rattle.burst_scheduler.proofs.OneReady.{one_ready}
use Rattle.burst_scheduler.proofs.laws.one_ready_list.Goals as goal

pub returns : goal.returns
returns c = one_ready

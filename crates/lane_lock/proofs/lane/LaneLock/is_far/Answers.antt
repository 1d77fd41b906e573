-- The law that stands in a file of lemmas.
use Rattle.lane_lock.proofs.Far.{far_declares_nothing}
use Rattle.lane_lock.proofs.lane.LaneLock.is_far.Goals as goal

pub returns-then-self-clause-lawful : goal.returns-then-self-clause-lawful
returns-then-self-clause-lawful c = far_declares_nothing

pub returns-else-self-clause-lawful : goal.returns-else-self-clause-lawful
returns-else-self-clause-lawful c = far_declares_nothing

-- No payload word comes next.
use Rattle.lane_lock.specs.Found.{found_steps}
use Rattle.lane_lock.proofs.Batches.{batch_none}
use Rattle.lane_lock.proofs.lane.LaneLock.payload_run.Goals as goal

pub returns-then-words-eq0-clause-stands : goal.returns-then-words-eq0-clause-stands
returns-then-words-eq0-clause-stands c = batch_none c.args.self.now (found_steps c.args.found.now)

-- Where bytes are passed over no step is appended.
use Rattle.lane_lock.specs.Found.{found_steps}
use Rattle.lane_lock.proofs.PassedOver.{quiet_batch}
use Rattle.lane_lock.proofs.lane.LaneLock.take_batch.Goals as goal

pub returns-in-Some-clause-stands : goal.returns-in-Some-clause-stands
returns-in-Some-clause-stands c = quiet_batch c.args.self.now c.pass.new.self c.args.bytes.now (found_steps c.args.found.now) c.pass.ensures.stands

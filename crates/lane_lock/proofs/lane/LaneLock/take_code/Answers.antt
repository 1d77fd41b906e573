-- A whole word at once.
use Rattle.std.proofs.Common.{◌+◌, ap}
use Rattle.lane_lock.specs.Lane.{LaneView}
use Rattle.lane_lock.proofs.Cutting.{code_brings}
use Rattle.lane_lock.proofs.Resting.{with_both}
use Rattle.lane_lock.proofs.lane.LaneLock.take_code.Goals as goal

pub returns-clause-stands : goal.returns-clause-stands
returns-clause-stands c =
    code_brings c.args.self.now _ c.watched.new.self c.args.code c.watched.result c.requires.watching c.requires.begins c.requires.code
    (ap (λ (x : LaneView). with_both x c.args.code (x.taken + 67)) c.self.view_is)
    (λ s bits z b. c.watched.ensures.stands z s bits b)

-- One step at most shows something.
use Rattle.lane_lock.specs.Found.{found_steps}
use Rattle.lane_lock.proofs.Batches.{batch_ends, batch_rests}
use Rattle.lane_lock.proofs.lane.LaneLock.append.Goals as goal

pub returns-in-Some-clause-stands : goal.returns-in-Some-clause-stands
returns-in-Some-clause-stands c =
    batch_ends c.args.self.now c.piece.new.self c.args.width c.args.bits c.in-Some.word (found_steps c.args.found.now) (found_steps c.keep.new.self)
    c.in-Some.ensures.place c.in-Some.ensures.low c.keep.ensures.steps c.in-Some.ensures.stands

pub returns-in-None-clause-stands : goal.returns-in-None-clause-stands
returns-in-None-clause-stands c = batch_rests c.args.self.now c.piece.new.self c.args.width c.args.bits (found_steps c.args.found.now) c.in-None.ensures.stands

-- The last bit of a word.
use Rattle.lane_lock.proofs.lane.LaneLock.last_bit.Goals as goal

pub returns-clause-stands : goal.returns-clause-stands
returns-clause-stands c s bits k = c.watched.ensures.stands c.args.self.now s bits c.args.b k c.take.ensures.value c.requires.watching c.requires.due

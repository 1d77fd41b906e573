-- A mask keeps the lowest bits.
use Rattle.lane_lock.proofs.Cutting.{masked}
use Rattle.lane_lock.proofs.words.last_bits.Goals as goal

pub returns-clause-value : goal.returns-clause-value
returns-clause-value c = masked c.args.bits c.args.count c.requires

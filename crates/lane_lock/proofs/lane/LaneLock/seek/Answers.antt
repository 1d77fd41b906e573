-- One bit more.
use Rattle.std.proofs.Common.{arith}
use Rattle.lane_lock.proofs.Resting.{sought_all, sought_more}
use Rattle.lane_lock.proofs.lane.LaneLock.seek.Goals as goal

pub loop-k-preserved : goal.loop-k-preserved
loop-k-preserved c = (
  sought_more c.args.self.now c.loop-k.self c.idle.new.self c.args.count c.args.bits c.loop-k.k c.bit_of.result c.loop-k-test.true c.requires.most c.loop-k.invariant.0
      c.bit_of.ensures c.idle.ensures.taken c.idle.ensures.rests c.idle.ensures.stands,
  (let before = c.loop-k.invariant.1 in let more = c.idle.ensures.later in omega (arith, before, more)),
)

pub returns-clause-stands : goal.returns-clause-stands
returns-clause-stands c = sought_all c.args.self.now c.loop-k.self c.args.count c.args.bits c.loop-k.k c.loop-k-test.false c.loop-k.auto.k-end c.loop-k.invariant.0

-- Nothing was given.
use Rattle.std.proofs.Common.{List}
use Rattle.lk_base.specs.Link.{Settings}
use Rattle.event_model.specs.Fed.{Fed}
use Rattle.rx_front.specs.Standing.{weight}
use Rattle.live_gatherer.specs.Numbers.{Numbered}
use Rattle.live_gatherer.specs.Taking.{Takes}
use Rattle.live_gatherer.proofs.taker.Taker.next.Given as goal

abbrev pub invariant-rounds : goal.invariant-rounds
invariant-rounds l = (s : Settings) (fed : List Fed) (given : List Numbered) → Takes l.fn.self s fed given → Takes l.self s fed given

abbrev pub decreases-rounds : goal.decreases-rounds
decreases-rounds l = weight l.self.front

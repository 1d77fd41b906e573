-- Nothing was given, and the clock stands where it did.
use Rattle.std.proofs.Common.{◌≡◌, List}
use Rattle.lk_base.specs.Link.{Settings}
use Rattle.event_model.specs.Fed.{Fed}
use Rattle.rx_front.specs.Standing.{items_left, weight}
use Rattle.live_gatherer.specs.Numbers.{Numbered}
use Rattle.live_gatherer.specs.Taking.{Takes}
use Rattle.live_gatherer.proofs.taker.Taker.shown.Given as goal

abbrev pub invariant-items : goal.invariant-items
invariant-items l = record {
  takes : (s : Settings) (fed : List Fed) (given : List Numbered) → Takes l.fn.self s fed given → Takes l.self s fed given;
  weight : weight l.self.front ≡ weight l.fn.self.front;
}

abbrev pub decreases-items : goal.decreases-items
decreases-items l = items_left l.self.front

use Rattle.std.proofs.Common.{◌≡◌, ℕ, List, Option}
use Rattle.lk_base.specs.Link.{Settings}
use Rattle.lk_outside.specs.Files.{Files}
use Rattle.event_model.specs.Fed.{Fed}
use Rattle.rx_front.specs.Standing.{items_left, weight}
use Rattle.gather_commands.specs.Taking.{IsGathering}
use Rattle.gather_commands.proofs.gatherer.Gatherer.take_shown.Given as goal

-- what was taken is gathered, and the clock stands where it did
abbrev pub invariant-items : goal.invariant-items
invariant-items g l = record {
  same_faults : g.S.Store.faults l.store ≡ g.S.Store.faults l.fn.store;
  gathering : (out : List ℕ) (s : Settings) (fed : List Fed) (was : Option Files) → IsGathering out s fed l.fn.self was (g.S.Store.files l.fn.store) → IsGathering out s fed l.self was (g.S.Store.files l.store);
  weight : weight l.self.front ≡ weight l.fn.self.front;
}

abbrev pub decreases-items : goal.decreases-items
decreases-items g l = items_left l.self.front

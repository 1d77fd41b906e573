use Rattle.std.proofs.Common.{◌≡◌, ℕ, List, Option}
use Rattle.lk_base.specs.Link.{Settings}
use Rattle.lk_outside.specs.Files.{Files}
use Rattle.event_model.specs.Fed.{Fed}
use Rattle.rx_front.specs.Standing.{weight}
use Rattle.gather_commands.specs.Taking.{IsGathering}
use Rattle.gather_commands.proofs.gatherer.Gatherer.take_known.Given as goal

-- what was taken is gathered
abbrev pub invariant-rounds : goal.invariant-rounds
invariant-rounds g l = record {
  same_faults : g.S.Store.faults l.store ≡ g.S.Store.faults l.fn.store;
  gathering : (out : List ℕ) (s : Settings) (fed : List Fed) (was : Option Files) → IsGathering out s fed l.fn.self was (g.S.Store.files l.fn.store) → IsGathering out s fed l.self was (g.S.Store.files l.store);
}

abbrev pub decreases-rounds : goal.decreases-rounds
decreases-rounds g l = weight l.self.front

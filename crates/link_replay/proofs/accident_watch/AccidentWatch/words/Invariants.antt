-- The first words were taken.
use Rattle.std.proofs.Common.{ℕ, ◌≡◌, ◌≤◌, ◌+◌, ◌-◌, List, ◌++◌, take}
use Rattle.lk_base.specs.declared.word.Aligned.{Aligned}
use Rattle.lk_base.specs.Positions.{words_from}
use Rattle.epoch_model.specs.SoFar.{LaneSoFar}
use Rattle.rx_front.specs.Waiting.{words_in}
use Rattle.link_replay.specs.Standing.{Holds, IsSame, Watches}
use Rattle.link_replay.proofs.accident_watch.AccidentWatch.words.Given as goal

abbrev pub invariant-loop-done : goal.invariant-loop-done
invariant-loop-done l = record {
  within : l.done ≤ l.count;
  same : IsSame l.fn.self l.self;
  skew : l.self.skew ≡ l.fn.self.skew;
  room : l.self.stretches ≤ l.fn.self.stretches + l.done;
  holds : (locks : ℕ → List ℕ) (items : List Aligned) → Holds l.fn.self l.sent locks items →
      Holds l.self l.sent locks (items ++ words_from l.at.group l.at.index (take l.done (words_in l.front.waiting)));
  watches : (lanes : List LaneSoFar) (locks : ℕ → List ℕ) (items : List Aligned) → Watches l.fn.self l.sent lanes locks items →
      Watches l.self l.sent lanes locks (items ++ words_from l.at.group l.at.index (take l.done (words_in l.front.waiting)));
}

abbrev pub decreases-loop-done : goal.decreases-loop-done
decreases-loop-done l = l.count - l.done

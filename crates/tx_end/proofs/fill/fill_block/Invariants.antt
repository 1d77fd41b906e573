use Rattle.std.proofs.Common.{ℕ, ◌+◌, ◌-◌, ◌*◌, ◌≤◌, ◌++◌, List, take}
use Rattle.lk_base.specs.declared.word.Word.{Word}
use Rattle.lane_model.specs.Striping.{lane_payload}
use Rattle.tx_end.specs.Lanes.{HasFilled}
use Rattle.tx_end.proofs.LanePlaces.{Making}
use Rattle.tx_end.proofs.fill.fill_block.Given as goal

abbrev pub invariant-loop-place : goal.invariant-loop-place
invariant-loop-place l = record {
  making : (given : List Word) (made : ℕ) (before : List ℕ) → HasFilled l.fn.lane l.link l.number given made before →
      Making l.lane l.link l.number given (lane_payload l.lanes l.group l.number) l.taken (made * l.link.metaframe + l.place) (before ++ take l.at l.block);
  within : l.place ≤ l.link.metaframe;
  room : l.at ≤ 9 * l.place;
}

abbrev pub decreases-loop-place : goal.decreases-loop-place
decreases-loop-place l = l.link.metaframe - l.place

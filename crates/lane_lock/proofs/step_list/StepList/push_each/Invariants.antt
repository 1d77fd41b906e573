-- The first words are appended.
use Rattle.std.proofs.Common.{◌≡◌, ◌++◌, take}
use Rattle.lock_model.specs.PayloadSteps.{payload_steps}
use Rattle.lane_lock.specs.Found.{found_steps}
use Rattle.lane_lock.proofs.step_list.StepList.push_each.Given as goal

abbrev pub invariant-loop-k : goal.invariant-loop-k
invariant-loop-k l = (found_steps l.self ≡ found_steps l.fn.self ++ payload_steps l.number l.at (take l.k l.words)) × (l.self.room ≡ l.fn.self.room)

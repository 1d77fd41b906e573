use Rattle.std.proofs.Common.{◌≡◌, ◌-◌, ◌^◌, take, sum_by}
use Rattle.std.specs.Prelude.{min}
use Rattle.live_stream.specs.Waiting.{left_of}
use Rattle.live_stream.specs.declared.waiting.Waiting.{Waiting}
use Rattle.live_stream.proofs.waiting.packets_left.Given as goal

abbrev pub invariant-loop-at : goal.invariant-loop-at
invariant-loop-at l = l.left ≡ min (sum_by (λ (q : Waiting). left_of q.counts) (take l.at l.queues)) (2 ^ 64 - 1)

use Rattle.std.proofs.Common.{◌≡◌, ℕ, map, get_or}
use Rattle.std.specs.List.{range_with_len}
use Rattle.burst_scheduler.proofs.turns.numbers.Given as goal

abbrev pub invariant-loop-i : goal.invariant-loop-i
invariant-loop-i l = l.order.items ≡ map (λ (k : ℕ). (get_or l.channels k 0, k)) (range_with_len 0 l.i)

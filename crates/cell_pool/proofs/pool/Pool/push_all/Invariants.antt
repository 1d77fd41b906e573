-- The words so far were added.
use Rattle.std.proofs.Common.{◌-◌, length}
use Rattle.cell_pool.proofs.Filled.{Filling}
use Rattle.cell_pool.proofs.pool.Pool.push_all.Given as goal

abbrev pub invariant-loop-done : goal.invariant-loop-done
invariant-loop-done l = Filling l.fn.self l.self l.place l.words l.done

abbrev pub decreases-loop-done : goal.decreases-loop-done
decreases-loop-done l = length l.words - l.done

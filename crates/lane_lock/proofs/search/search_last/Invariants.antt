-- The first positions were taken.
use Rattle.std.proofs.Common.{◌≡◌, ◌+◌, ◌++◌, ℕ, Bool, List, map}
use Rattle.std.specs.List.{range_with_len}
use Rattle.lk_base.specs.Checksum.{bits_of_bytes}
use Rattle.lock_model.specs.Locks.{has_legal, has_sync}
use Rattle.phase_finder.specs.Phases.{Watches}
use Rattle.lane_lock.specs.Marks.{Recalls}
use Rattle.lane_lock.proofs.search.search_last.Given as goal

abbrev pub invariant-loop-k : goal.invariant-loop-k
invariant-loop-k l = record {
  taken : l.starts.taken ≡ l.fn.starts.taken + l.k;
  period : l.starts.period ≡ l.fn.starts.period;
  need : l.starts.need ≡ l.fn.starts.need;
  hits : (period need first : ℕ) (hits : List Bool) → Watches l.fn.starts period need first hits → Watches l.starts period need first (hits ++ map (has_legal (bits_of_bytes l.bytes)) (range_with_len l.first l.k));
  marks : (given : List Bool) → Recalls l.fn.marks given → Recalls l.marks (given ++ map (has_sync (bits_of_bytes l.bytes)) (range_with_len l.first l.k));
}

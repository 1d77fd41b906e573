-- The highest counter so far, or one of those that are left, is the highest.
use Rattle.std.proofs.Common.{◌≡◌, max, drop}
use Rattle.phase_finder.specs.Phases.{highest}
use Rattle.phase_finder.proofs.finder.highest.Given as goal

abbrev pub invariant-loop-count : goal.invariant-loop-count
invariant-loop-count l = max l.most (highest (drop l.count-index l.counts)) ≡ highest l.counts

-- The first lanes are.
use Rattle.std.proofs.Common.{ℕ, ◌≡◌, ◌+◌, ◌*◌, ◌<◌}
use Rattle.std.proofs.Common.{get_or}
use Rattle.link_replay.specs.Groups.{starts_of}
use Rattle.link_replay.specs.Standing.{skews_of}
use Rattle.link_replay.proofs.group.are_numbered.Given as goal

abbrev pub invariant-loop-i : goal.invariant-loop-i
invariant-loop-i l = (j : ℕ) → j < l.i → get_or (starts_of l.front) j 0 ≡ get_or (skews_of l.lanes) j 0 + 67 * (l.number * l.link.metaframe)

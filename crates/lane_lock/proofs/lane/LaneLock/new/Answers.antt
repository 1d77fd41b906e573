-- A lane of which no bit came.
use Rattle.std.proofs.Common.{refl}
use Rattle.lane_lock.proofs.Reports.{stands_first}
use Rattle.lane_lock.proofs.lane.LaneLock.new.Goals as goal

pub returns : goal.returns
returns c = (stands_first _ c.args.link.now c.in_ok-watch.ensures.1 c.in_ok-watch.ensures.0 refl refl refl refl c.in_ok-starts.ensures c.new-3.ensures c.no_counts.ensures.value, refl)

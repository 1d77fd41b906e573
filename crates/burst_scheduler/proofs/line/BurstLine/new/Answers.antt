use Rattle.std.proofs.Common.{length, refl, ap}
use Rattle.burst_scheduler.proofs.line.BurstLine.new.Goals as goal

pub returns : goal.returns
returns c = record { outgoing = c.in_ok-outgoing.ensures {u = tt}; long = ap length (c.in_ok-run.ensures {u = tt}).items; count = refl; given = refl; eop = refl }

-- Proved above.
use Rattle.interlaken.proofs.CountedRuns.{counted_deliver, counted_deliver_clean, counted_when_on}
use Rattle.interlaken.proofs.laws.counted_follow.Goals as goal

pub returns : goal.returns
returns c = record { delivers = counted_deliver; delivers_clean = counted_deliver_clean; links_off = counted_when_on }

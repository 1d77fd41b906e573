-- Proved above.
use Rattle.interlaken.proofs.OutcomeRuns.{outcomes_deliver, outcomes_deliver_clean, outcomes_when_on}
use Rattle.interlaken.proofs.laws.outcomes_follow.Goals as goal

pub returns : goal.returns
returns c = record { delivers = outcomes_deliver; delivers_clean = outcomes_deliver_clean; links_off = outcomes_when_on }

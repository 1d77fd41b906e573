-- Proved above.
use Rattle.gathered_laws.proofs.CheckGathered.{check_after_gather}
use Rattle.gathered_laws.proofs.outcomes.check_after_gather.Goals as goal

pub returns : goal.returns
returns c = check_after_gather c.gather_after_send.ensures c.words_grow.ensures.read c.worked_examples.ensures.tables

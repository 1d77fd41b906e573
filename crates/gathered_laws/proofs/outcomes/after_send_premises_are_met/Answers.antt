-- Proved above.
use Rattle.gathered_laws.proofs.AfterSendHolds.{after_send_met}
use Rattle.gathered_laws.proofs.outcomes.after_send_premises_are_met.Goals as goal

pub returns : goal.returns
returns c = after_send_met c.premises_are_met.ensures.skewed c.gather_after_send.ensures c.check_after_gather.ensures c.words_grow.ensures.read

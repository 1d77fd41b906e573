-- Proved above.
use Rattle.gathered_laws.proofs.AfterSend.{gather_after_send}
use Rattle.gathered_laws.proofs.outcomes.gather_after_send.Goals as goal

pub returns : goal.returns
returns c = gather_after_send c.words_are_of_epochs.ensures.clean

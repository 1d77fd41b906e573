-- Proved above.
use Rattle.gathered_laws.proofs.AfterStripe.{gather_after_stripe}
use Rattle.gathered_laws.proofs.outcomes.gather_after_stripe.Goals as goal

pub returns : goal.returns
returns c = gather_after_stripe c.words_are_of_epochs.ensures.clean

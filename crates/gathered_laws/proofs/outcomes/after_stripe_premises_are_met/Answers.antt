-- Proved above.
use Rattle.gathered_laws.proofs.AfterStripeHolds.{after_stripe_met}
use Rattle.gathered_laws.proofs.outcomes.after_stripe_premises_are_met.Goals as goal

pub returns : goal.returns
returns c = after_stripe_met c.premises_are_met.ensures.skewed c.gather_after_stripe.ensures c.striped_streams.ensures.once

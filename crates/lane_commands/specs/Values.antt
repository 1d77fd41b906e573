-- A plan and its words as they are in the code.
use Rattle.link_plan.specs.Views.{plan_value}
use Rattle.lane_commands.specs.declared.plan_words.StripeInputs as code
use Rattle.lane_commands.specs.Stripe.{StripeInputs}

abbrev pub words_value : code.StripeInputs → StripeInputs
words_value read = record { plan = plan_value read.plan; words = read.words }

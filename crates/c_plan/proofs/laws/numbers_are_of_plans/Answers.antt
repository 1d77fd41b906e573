-- The law on numbers.
use Rattle.c_plan.proofs.Limits.{numbers_are_of_plans}
use Rattle.c_plan.proofs.laws.numbers_are_of_plans.Goals as goal

pub returns : goal.returns
returns c = numbers_are_of_plans

-- The law on words that are sent.
use Rattle.c_plan.proofs.Slots.{slots_are_found}
use Rattle.c_plan.proofs.laws.slots_are_found.Goals as goal

pub returns : goal.returns
returns c = slots_are_found

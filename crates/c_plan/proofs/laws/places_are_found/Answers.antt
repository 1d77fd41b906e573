-- The law on words that are received.
use Rattle.c_plan.proofs.GroupPlaces.{places_are_found}
use Rattle.c_plan.proofs.laws.places_are_found.Goals as goal

pub returns : goal.returns
returns c = places_are_found

-- The former items stay in front.
use Rattle.event_model.proofs.KnownItems.{items_stay}
use Rattle.event_model.proofs.laws.items_stay.Goals as goal

pub returns : goal.returns
returns c = items_stay

-- The places of known items rise.
use Rattle.event_model.proofs.KnownItems.{items_rise}
use Rattle.event_model.proofs.laws.items_rise.Goals as goal

pub returns : goal.returns
returns c = items_rise

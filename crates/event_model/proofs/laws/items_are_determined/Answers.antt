-- Lanes so far have items that are known.
use Rattle.event_model.proofs.KnownItems.{items_are_determined, items_exist}
use Rattle.event_model.proofs.laws.items_are_determined.Goals as goal

pub returns : goal.returns
returns c = record { exist = items_exist; same = items_are_determined }

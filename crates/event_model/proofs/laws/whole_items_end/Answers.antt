-- An epoch of whole lanes ends with its break.
use Rattle.event_model.proofs.KnownEvents.{whole_items_end}
use Rattle.event_model.proofs.laws.whole_items_end.Goals as goal

pub returns : goal.returns
returns c = whole_items_end

-- The items of whole lanes.
use Rattle.std.specs.Prelude.{ℕ, List, map}
use Rattle.lk_base.specs.Link.{Settings}
use Rattle.lk_base.specs.declared.word.Aligned.{Aligned}
use Rattle.event_model.specs.Fed.{clock_of, whole}
use Rattle.event_model.specs.Given.{AreItems}

-- these are all items of lanes with these bytes
abbrev pub AreAllItems : Settings → List (List ℕ) → List Aligned → Type 0
AreAllItems s lanes items = AreItems s (clock_of (map whole lanes)) (map whole lanes) items

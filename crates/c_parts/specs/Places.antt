-- The place of a word as C sees it.
use Rattle.std.specs.Prelude.{Option, Some, None}
use Rattle.lk_base.specs.declared.position.Pos.{Pos}
use Rattle.c_parts.specs.declared.place.CPlace.{CPlace}

abbrev pub place_of : Option Pos → CPlace
place_of None = record { known = 0; index = 0; group = 0 }
place_of (Some pos) = record { known = 1; index = pos.index; group = pos.group }

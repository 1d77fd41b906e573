-- An event of a lane as C sees it.
use Rattle.std.specs.Prelude.{Option, Some, None}
use Rattle.live_inspector.specs.declared.types.LiveEvent.{LiveEvent}
use Rattle.c_inspector.specs.Codes.{kind_code}
use Rattle.c_inspector.specs.declared.event.CLaneEvent.{CLaneEvent}

-- all is 0 if there is none
abbrev pub shown : Option LiveEvent → CLaneEvent
shown None = record { kind = 0; lane = 0; bit = 0 }
shown (Some e) = record { kind = kind_code e.kind; lane = e.lane; bit = e.bit }

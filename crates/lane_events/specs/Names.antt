-- The names of the kinds of events.
use Rattle.std.specs.Prelude.{ℕ, List}
use lib.Chars.{codes}
use Rattle.lane_events.specs.declared.types.EventKind.{EventKind}
use Rattle.lane_events.specs.declared.types.EventKind.TheVariants as kinds

-- the kind's name, as it stands in the table of events
abbrev pub name_of : EventKind → List ℕ
name_of kinds.Bad = codes "bad"
name_of kinds.Sync = codes "sync"
name_of kinds.State = codes "state"
name_of kinds.Skip = codes "skip"
name_of kinds.Diagnostic = codes "diag"
name_of kinds.Health = codes "health"
name_of kinds.Balance = codes "balance"
name_of kinds.Lock = codes "lock"
name_of kinds.LostHeaders = codes "lost-headers"
name_of kinds.LostSync = codes "lost-sync"
name_of kinds.LostState = codes "lost-state"
name_of kinds.Unframed = codes "unframed"

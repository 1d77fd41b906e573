-- The numbers of misuses and of kinds of events.
use Rattle.std.specs.Prelude.{ℕ, ◌+◌}
use Rattle.lane_events.specs.declared.types.EventKind.{EventKind}
use Rattle.lane_events.specs.EventLaw.{kind_place}
use Rattle.live_inspector.specs.declared.misuse.Misuse.{Misuse}
use Rattle.live_inspector.specs.declared.misuse.Misuse.TheVariants as misuses
use Rattle.c_parts.specs.Codes.{finished, no_lane, too_many}

abbrev pub misuse_code : Misuse → ℕ
misuse_code misuses.NoLane = no_lane
misuse_code misuses.Finished = finished
misuse_code misuses.TooMany = too_many

-- the place of the kind in the order of the events of one word, from 1
abbrev pub kind_code : EventKind → ℕ
kind_code kind = kind_place kind + 1

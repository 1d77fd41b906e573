-- What a call is asked that it does not do.
use Rattle.std.specs.Prelude.{ℕ, ◌^◌, ◌&&◌, Bool, false, List, length, get_or, nat_lt, Option, Some, None, if◌then◌else◌}
use Rattle.c_parts.specs.declared.misuse.Misuse.{Misuse}
use Rattle.c_parts.specs.declared.misuse.Misuse.TheVariants as misuses

-- a lane that is not there, or was finished, takes no byte and no end, by the flags of lanes
abbrev pub lane_misuse_by : List Bool → ℕ → Option Misuse
lane_misuse_by finished lane =
    if nat_lt lane (length finished) then (if get_or finished lane false then Some misuses.Finished else None) else Some misuses.NoLane

-- a lane of 2^40 bytes or more takes no byte, and no lane takes a piece that is as long
abbrev pub misuse_by : ℕ → ℕ → Option Misuse
misuse_by fed count = if nat_lt fed (2 ^ 40) && nat_lt count (2 ^ 40) then None else Some misuses.TooMany

abbrev pub or_else : Option Misuse → Option Misuse → Option Misuse
or_else (Some why) other = Some why
or_else None other = other

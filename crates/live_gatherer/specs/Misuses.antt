-- What a call on a gatherer is asked that it does not do.
use Rattle.std.specs.Prelude.{ℕ, ◌^◌, ◌&&◌, Bool, false, List, length, get_or, nat_lt, Option, Some, None, if◌then◌else◌}
use Rattle.rx_front.specs.Calls.{count_at, is_open}
use Rattle.rx_front.specs.States.{State}
use Rattle.live_gatherer.specs.declared.misuse.Misuse.{Misuse}
use Rattle.live_gatherer.specs.declared.misuse.Misuse.TheVariants as misuses

-- a lane that is not there, or was finished, takes no byte and no end
abbrev pub lane_misuse : State → ℕ → Option Misuse
lane_misuse f lane = if nat_lt lane (length f.lanes) then (if is_open lane f.lanes then None else Some misuses.Finished) else Some misuses.NoLane

-- a lane of 2^40 bytes or more takes no byte, and no lane takes a piece that is as long
abbrev pub misuse_by : ℕ → ℕ → Option Misuse
misuse_by fed count = if nat_lt fed (2 ^ 40) && nat_lt count (2 ^ 40) then None else Some misuses.TooMany

abbrev pub or_else : Option Misuse → Option Misuse → Option Misuse
or_else (Some why) other = Some why
or_else None other = other

abbrev pub feed_misuse : State → ℕ → ℕ → Option Misuse
feed_misuse f lane count = or_else (lane_misuse f lane) (misuse_by (count_at lane f.lanes) count)

-- ---- within

-- the same by flags of the lanes that are finished
abbrev pub lane_misuse_by : List Bool → ℕ → Option Misuse
lane_misuse_by finished lane =
    if nat_lt lane (length finished) then (if get_or finished lane false then Some misuses.Finished else None) else Some misuses.NoLane

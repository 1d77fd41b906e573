-- What a call on a receiver is asked that it does not do.
use Rattle.std.specs.Prelude.{ℕ, length, nat_lt, Option, Some, None, if◌then◌else◌}
use Rattle.rx_end.specs.States.{State}
use Rattle.rx_front.specs.Calls.{count_at, is_open}
use Rattle.c_parts.specs.Misuses.{misuse_by, or_else}
use Rattle.c_parts.specs.declared.misuse.Misuse.{Misuse}
use Rattle.c_parts.specs.declared.misuse.Misuse.TheVariants as misuses

-- a lane that is not there, or was finished, takes no byte and no end
abbrev pub lane_misuse : State → ℕ → Option Misuse
lane_misuse v lane =
    if nat_lt lane (length v.front.lanes) then (if is_open lane v.front.lanes then None else Some misuses.Finished) else Some misuses.NoLane

abbrev pub feed_misuse : State → ℕ → ℕ → Option Misuse
feed_misuse v lane count = or_else (lane_misuse v lane) (misuse_by (count_at lane v.front.lanes) count)

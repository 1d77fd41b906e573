-- The results of calls that are refused.
use Rattle.std.specs.Prelude.{ℕ}
use Rattle.lane_damage.specs.declared.refused.Refused.{Refused}
use Rattle.lane_damage.specs.declared.refused.Refused.TheVariants as refusals
use Rattle.c_parts.specs.Codes.{no_lane, out_of_memory, out_of_range, passed, too_many}

-- of a call on damage that is refused
abbrev pub damage_code : Refused → ℕ
damage_code refusals.NoLane = no_lane
damage_code refusals.OutOfRange = out_of_range
damage_code refusals.Passed = passed
damage_code refusals.TooMany = too_many
damage_code refusals.OutOfMemory = out_of_memory

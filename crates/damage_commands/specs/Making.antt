-- What the maker of damaged lanes gave so far.
use Rattle.std.specs.Prelude.{◌≡◌, ◌≤◌, ◌-◌, ◌++◌, ℕ, List, [], All, Vec, length, map, take, replicate}
use Rattle.std.specs.declared.alloc.Global.{Global}
use Rattle.link_plan.specs.ScheduleViews.{schedule_value}
use Rattle.run_stops.specs.Reading.{vec_items}
use Rattle.damage_commands.specs.PlanLanes.{whole_lane_limit}
use Rattle.damage_commands.specs.Damage.{AreArrived, lines_from}
use Rattle.damage_commands.specs.declared.inputs.DamageInputs.{DamageInputs}

-- the bytes of the lanes that were read
abbrev pub lanes_of : DamageInputs → List (List ℕ)
lanes_of i = map vec_items i.lanes.items

-- the first of the lanes as they are received, and nothing of the others; and the lines of these first
pub record GaveLanes (i : DamageInputs) (lines : Vec ℕ Global) (count : ℕ) (given : List (List ℕ)) : Type 0 where
  pub many : length i.lanes.items ≡ i.plan.link.lanes
  pub skews : length i.schedule.skews.items ≡ i.plan.link.lanes
  pub few : All (λ (v : Vec ℕ Global). length v.items ≤ whole_lane_limit) i.lanes.items
  pub within : count ≤ length i.lanes.items
  pub received : List (List ℕ)
  pub are : AreArrived (schedule_value i.schedule) (take count (lanes_of i)) received
  pub is : given ≡ received ++ replicate (length i.lanes.items - count) []
  pub told : lines.items ≡ lines_from (schedule_value i.schedule) 0 (take count (lanes_of i))

-- What the calls on a plan do.
use Rattle.std.specs.Prelude.{ℕ, ◌≡◌, ◌⊎◌, ◌++◌, List, length, take, drop, Option, Some, None, Result, Ok, Err}
use Rattle.csv_rows.specs.Rows.{rows_of}
use Rattle.plan_errors.specs.declared.error.PlanError.{PlanError}
use Rattle.link_plan.specs.Listing.{channels_in_order, numbers_of as listed_in}
use Rattle.link_plan.specs.Plan.{plan_of}
use Rattle.link_plan.specs.Views.{GivesPlan}
use Rattle.link_plan.specs.declared.plan.Plan.{Plan}
use Rattle.c_parts.specs.Codes.{done, out_of_range, plan_code}
use Rattle.c_parts.specs.Refusals.{IsRefused, of_row, refusal_of}
use Rattle.c_parts.specs.declared.place.CPlace.{CPlace}
use Rattle.c_parts.specs.declared.refusal.Refusal.{Refusal}
use Rattle.c_plan.specs.Numbers.{ArePlanNumbers, no_numbers, numbers_of, settings_in}
use Rattle.c_plan.specs.Places.{IsPlace, IsSlot, bit_of_place, bit_of_slot, lane_of_place, lane_of_slot}
use Rattle.c_plan.specs.declared.numbers.PlanNumbers.{PlanNumbers}
use Rattle.c_plan.specs.declared.places.LaneBit.{LaneBit}

-- these bytes are a plan
abbrev pub IsPlanOf : List ℕ → Plan → Type 0
IsPlanOf bytes plan = GivesPlan (Ok plan) (plan_of (rows_of bytes))

-- ---- what is read

-- the numbers of the plan; or the plan is refused so, or memory ran out
abbrev pub GivesNumbers : List ℕ → Result PlanNumbers PlanError → Type 0
GivesNumbers bytes (Ok numbers) = (plan : Plan) × IsPlanOf bytes plan × (numbers ≡ numbers_of plan)
GivesNumbers bytes (Err why) = IsRefused bytes why

abbrev pub ReadsPlan : List ℕ → ℕ → PlanNumbers → Refusal → Type 0
ReadsPlan bytes code numbers refusal =
    ((plan : Plan) × IsPlanOf bytes plan × (numbers ≡ numbers_of plan) × (code ≡ done) × (refusal ≡ of_row 0 0))
    ⊎ ((why : PlanError) × IsRefused bytes why × (numbers ≡ no_numbers) × (code ≡ plan_code why) × (refusal ≡ refusal_of why))

-- the numbers of the plan's channels in order of number, as many as there is room for, and how many they are
abbrev pub AreListed : Plan → List ℕ → List ℕ → ℕ → Type 0
AreListed plan before after count =
    let listed = channels_in_order (listed_in plan.channels.items) in (count ≡ length listed) × (after ≡ take (length before) listed ++ drop (length listed) before)

abbrev pub GivesChannels : List ℕ → List ℕ → List ℕ → Result ℕ PlanError → Type 0
GivesChannels bytes before after (Ok count) = (plan : Plan) × IsPlanOf bytes plan × AreListed plan before after count
GivesChannels bytes before after (Err why) = IsRefused bytes why × (after ≡ before)

abbrev pub ListsChannels : List ℕ → List ℕ → List ℕ → ℕ → ℕ → Refusal → Type 0
ListsChannels bytes before after code count refusal =
    ((plan : Plan) × IsPlanOf bytes plan × AreListed plan before after count × (code ≡ done) × (refusal ≡ of_row 0 0))
    ⊎ ((why : PlanError) × IsRefused bytes why × (after ≡ before) × (count ≡ 0) × (code ≡ plan_code why) × (refusal ≡ refusal_of why))

-- ---- what is found

abbrev pub GivesFound : Option LaneBit → ℕ → ℕ → ℕ → Type 0
GivesFound (Some found) code lane bit = (code ≡ done) × (lane ≡ found.lane) × (bit ≡ found.bit)
GivesFound None code lane bit = (code ≡ out_of_range) × (lane ≡ 0) × (bit ≡ 0)

-- the lane and the bit of the place, where a plan has these numbers and a group the place; else neither
abbrev pub FindsPlace : PlanNumbers → CPlace → ℕ → ℕ → ℕ → Type 0
FindsPlace numbers at code lane bit =
    let s = settings_in numbers in
    (ArePlanNumbers numbers × IsPlace s at × (code ≡ done) × (lane ≡ lane_of_place s at.index) × (bit ≡ bit_of_place s at.group at.index))
    ⊎ ((ArePlanNumbers numbers × IsPlace s at → ⊥) × (code ≡ out_of_range) × (lane ≡ 0) × (bit ≡ 0))

-- the lane and the bit of the word of this number, where a plan has these numbers and the word is counted; else neither
abbrev pub FindsSlot : PlanNumbers → ℕ → ℕ → ℕ → ℕ → Type 0
FindsSlot numbers slot code lane bit =
    let s = settings_in numbers in
    (ArePlanNumbers numbers × IsSlot slot × (code ≡ done) × (lane ≡ lane_of_slot s slot) × (bit ≡ bit_of_slot s slot))
    ⊎ ((ArePlanNumbers numbers × IsSlot slot → ⊥) × (code ≡ out_of_range) × (lane ≡ 0) × (bit ≡ 0))

-- What `damage FILE` means: the schedule of a plan is applied to the lanes that are there.
use Rattle.std.specs.Prelude.{◌≡◌, ◌<◌, ◌*◌, ℕ, suc, List, [], ◌∷◌, ◌++◌, length, get_or}
use lib.Chars.{codes}
use Rattle.lk_base.specs.Checksum.{bits_of_bytes}
use Rattle.lane_model.specs.Damage.{received_bits}
use Rattle.lane_model.specs.LaneBits.{IsFileOf}
use Rattle.link_plan.specs.Plan.{PlanValue}
use Rattle.link_plan.specs.Schedules.{ScheduleValue}
use Rattle.link_replay.specs.Damages.{lane_damage}
use Rattle.run_shell.specs.declared.status.Status.TheVariants.{Done}
use Rattle.run_shell.specs.Names.{lane_name, lane_names}
use Rattle.run_shell.specs.Outcome.{Outcome}
use Rattle.run_shell.specs.Outputs.{outs}
use Rattle.run_shell.specs.Meaning.{Meaning}
use Rattle.run_shell.specs.Work.{Work, meaning_by}
use Rattle.damage_commands.specs.PlanLanes.{DamageInputs, IsReadFor, damage_inputs_in}
use Rattle.damage_commands.specs.Struck.{damaged_line, struck, unused}

-- ---- the lanes

-- the file of the received bits of a lane with these bytes, all bits of which were sent
abbrev pub IsArrived : ScheduleValue → ℕ → List ℕ → List ℕ → Type 0
IsArrived schedule lane sent received = IsFileOf received (received_bits (lane_damage schedule lane) (bits_of_bytes sent))

-- of each of these lanes, by number
pub record AreArrived (schedule : ScheduleValue) (sent received : List (List ℕ)) : Type 0 where
  pub as_many : length received ≡ length sent
  pub each : (lane : ℕ) → lane < length sent → IsArrived schedule lane (get_or sent lane []) (get_or received lane [])

-- ---- the text

-- the line of a lane with these bytes
abbrev pub line_of : ScheduleValue → ℕ → List ℕ → List ℕ
line_of schedule lane sent =
    damaged_line lane (lane_damage schedule lane).skew (struck (lane_damage schedule lane) (bits_of_bytes sent)) (unused (lane_damage schedule lane) (8 * length sent))

-- the lines of lanes, from this number on
abbrev pub lines_from : ScheduleValue → ℕ → List (List ℕ) → List ℕ
lines_from schedule lane [] = []
lines_from schedule lane (sent ∷ lanes) = line_of schedule lane sent ++ lines_from schedule (suc lane) lanes

-- ---- the command

-- what the names of the damaged lanes of a plan with this `out` begin with
abbrev pub damaged_out : List ℕ → List ℕ
damaged_out out = out ++ codes ".damaged"

-- the names of the files of the damaged lanes of a plan, by number
abbrev pub damaged_names : PlanValue → List (List ℕ)
damaged_names plan = lane_names (damaged_out plan.out) plan.settings.lanes

-- the files of the received bits of the lanes, lane 0 first, and a line for each lane
pub record IsDamaged (i : DamageInputs) (o : Outcome) : Type 0 where
  pub received : List (List ℕ)
  pub are : AreArrived i.schedule i.lanes received
  pub status : o.status ≡ Done
  pub files : o.files ≡ outs (damaged_names i.plan) received
  pub text : o.text ≡ lines_from i.schedule 0 i.lanes

-- The lanes of the plan become damaged lanes, under names that begin with its `out`. No stream is held.
abbrev pub damage_work : List ℕ → Work
damage_work name = record {
  Inputs = DamageInputs;
  inputs_in = λ files. damage_inputs_in files name;
  IsMade = IsDamaged;
  IsHeld = λ i. ⊥;
  Creates = λ i q. (lane : ℕ) × (lane < i.plan.settings.lanes) × (q ≡ lane_name (damaged_out i.plan.out) lane);
  Names = IsReadFor name;
  IsReadLate = λ files q. ⊥;
}

abbrev pub damage_meaning : List ℕ → Meaning
damage_meaning name = meaning_by (damage_work name)

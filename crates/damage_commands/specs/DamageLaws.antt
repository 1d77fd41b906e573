-- Laws on `damage` and the commands beside it.
use Rattle.std.specs.Prelude.{◌≡◌, ◌↔◌, ◌⊎◌, ◌<◌, ◌≤◌, ◌*◌, ◌-◌, ◌%◌, ℕ, true, List, [], ◌∷◌, ◌++◌, length, replicate, Bool, Contains, Some, Ok}
use lib.Chars.{codes}
use Rattle.lk_base.specs.Checksum.{bits_of_bytes}
use Rattle.lane_model.specs.Damage.{LaneDamage, received_bits}
use Rattle.lane_model.specs.LaneBits.{IsFileOf}
use Rattle.lk_outside.specs.Files.{Files, file}
use Rattle.link_plan.specs.Schedules.{ScheduleValue}
use Rattle.link_replay.specs.Damages.{flips_on, lane_damage}
use Rattle.link_reports.specs.Lines.{line_end}
use Rattle.run_shell.specs.Names.{lane_name}
use Rattle.run_shell.specs.Outcome.{Outcome, content_of}
use Rattle.run_shell.specs.Work.{IsWork}
use Rattle.stream_commands.specs.Plan.{send_plan_work}
use Rattle.link_commands.specs.Inputs.{LinkReading}
use Rattle.link_commands.specs.Linked.{IsLinked}
use Rattle.damage_commands.specs.PlanLanes.{DamageInputs, damage_inputs_in, whole_lane_limit}
use Rattle.damage_commands.specs.Struck.{struck, unused}
use Rattle.damage_commands.specs.Damage.{IsArrived, IsDamaged, damage_work, damaged_out, lines_from}

-- what is read comes to one outcome, where files hold bytes there is one, and no stream is held
abbrev pub DamageIsWork : Type 0
DamageIsWork = (name : List ℕ) → IsWork (damage_work name)

-- ---- what is told

-- no bit is struck exactly where the received bits are the ones of the skew and then the sent bits
abbrev pub NoneStruck : Type 0
NoneStruck = (damage : LaneDamage) (sent : List Bool) → (struck damage sent ≡ 0) ↔ (received_bits damage sent ≡ replicate damage.skew true ++ sent)

-- so it is exactly where the lane arrives as it was sent but for its skew
abbrev pub ArrivesAsSent : Type 0
ArrivesAsSent = (schedule : ScheduleValue) (lane : ℕ) (sent received : List ℕ) → IsArrived schedule lane sent received →
    (struck (lane_damage schedule lane) (bits_of_bytes sent) ≡ 0) ↔ IsFileOf received (replicate (lane_damage schedule lane).skew true ++ bits_of_bytes sent)

-- ---- `damage` after `send`

-- no `flip` row of a lane names a bit that pads its file: the codes of a lane, of 67 bits each, leave fewer than eight bits of it.
-- (Where a `dark` row covers one of them it stays 0.)
abbrev pub FlipsNoPadding : ScheduleValue → ℕ → List ℕ → Type 0
FlipsNoPadding schedule lane bytes = (bit : ℕ) → Contains (flips_on lane schedule.flips) bit → (bit < 8 * length bytes - 8 * length bytes % 67) ⊎ (8 * length bytes ≤ bit)

-- `damage` reads the lanes that `send` wrote: of the same plan and schedule, from files that hold what `send` gave to them
pub record ReadsSent (name : List ℕ) (i : LinkReading) (send : Outcome) (files : Files) (read : DamageInputs) : Type 0 where
  pub is_read : damage_inputs_in files name ≡ Ok read
  pub plan : read.plan ≡ i.reading.plan
  pub schedule : read.schedule ≡ i.schedule
  pub sent : (lane : ℕ) → lane < i.reading.plan.settings.lanes → file files (lane_name i.reading.plan.out lane) ≡ content_of send.files (lane_name i.reading.plan.out lane)

-- `damage` after `send` of one plan gives the lanes that `link` of the plan writes, but for zeros at their ends, where no row names
-- a padding bit
abbrev pub DamageAfterSend : Type 0
DamageAfterSend = (name : List ℕ) (i : LinkReading) (send link damage : Outcome) (files : Files) (read : DamageInputs) →
    (send_plan_work name).IsMade i.reading send → IsLinked i link → ReadsSent name i send files read → IsDamaged read damage →
    (lane : ℕ) → lane < i.reading.plan.settings.lanes → (sent damaged linked : List ℕ) →
    content_of send.files (lane_name i.reading.plan.out lane) ≡ Some sent → FlipsNoPadding i.schedule lane sent →
    content_of damage.files (lane_name (damaged_out i.reading.plan.out) lane) ≡ Some damaged →
    content_of link.files (lane_name i.reading.plan.out lane) ≡ Some linked →
    (zeros : ℕ) × (damaged ≡ linked ++ replicate zeros 0)

-- ---- worked examples

-- of a lane of two bytes: bit 1 is named by one flip, bit 3 by two, bits 10 to 15 by a dark stretch, bit 15 is the last, and no
-- bit 16 is there
abbrev pub three_struck : ScheduleValue
three_struck = record {
  skews = 0 ∷ 11 ∷ [];
  flips = record { lane = 1; bit = 1 } ∷ record { lane = 1; bit = 3 } ∷ record { lane = 1; bit = 3 } ∷ record { lane = 0; bit = 2 } ∷ record { lane = 1; bit = 16 } ∷ [];
  darks = record { lane = 1; first = 10; count = 13 } ∷ record { lane = 1; first = 99999999; count = 1 } ∷ [];
}

pub record WorkedLanes : Type 0 where
  pub limit : whole_lane_limit ≡ 268435456
  -- a dark stretch strikes the bits that are 1 alone
  pub bits : struck (lane_damage three_struck 1) (bits_of_bytes (0xA5 ∷ 0x0F ∷ [])) ≡ 5
  pub rows : unused (lane_damage three_struck 1) 16 ≡ 2
  pub lines : lines_from three_struck 0 ((0xFF ∷ []) ∷ (0xA5 ∷ 0x0F ∷ []) ∷ [])
      ≡ codes "damaged lane=0 skew=0 bits=1 unused=0" ++ (line_end ++ (codes "damaged lane=1 skew=11 bits=5 unused=2" ++ line_end))
  pub received : received_bits (lane_damage three_struck 0) (bits_of_bytes (0xFF ∷ [])) ≡ bits_of_bytes (0xDF ∷ [])

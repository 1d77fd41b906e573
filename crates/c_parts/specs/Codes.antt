-- The results of calls.
use Rattle.std.specs.Prelude.{ℕ}
use Rattle.c_parts.specs.declared.codes.Cause.{Cause}
use Rattle.c_parts.specs.declared.codes.Cause.TheVariants as causes
use Rattle.c_parts.specs.declared.codes.Code.{Code}
use Rattle.c_parts.specs.declared.codes.Code.TheVariants as results
use Rattle.c_parts.specs.declared.misuse.Misuse.{Misuse}
use Rattle.c_parts.specs.declared.misuse.Misuse.TheVariants as misuses
use Rattle.lk_base.specs.declared.fault.Why.{Why}
use Rattle.lk_base.specs.declared.fault.Why.TheVariants as faults
use Rattle.plan_errors.specs.declared.error.PlanError.{PlanError}
use Rattle.plan_errors.specs.declared.error.PlanError.TheVariants as errors
use Rattle.lock_model.specs.declared.types.LaneState.{LaneState}
use Rattle.lock_model.specs.declared.types.LaneState.TheVariants as states

-- the number of a result, as in the header
abbrev pub number_of : Code → ℕ
number_of results.Done = 0
number_of results.OutOfMemory = 1
number_of results.BadPlan = 2
number_of results.NoLane = 3
number_of results.Finished = 4
number_of results.TooMany = 5
number_of results.NoPacket = 6
number_of results.NoReceiver = 7
number_of results.InUse = 8
number_of results.NoDamage = 9
number_of results.OutOfRange = 10
number_of results.Passed = 11
number_of results.NoTransmitter = 12
number_of results.NoChannel = 13
number_of results.BadLength = 14
number_of results.NoInspector = 15
number_of results.NoChecker = 16
number_of results.Waiting = 17
number_of results.NoGatherer = 18
number_of results.PartByte = 19

-- the number of a cause of a refusal, as in the header
abbrev pub cause_number : Cause → ℕ
cause_number causes.NoCause = 0
cause_number causes.Text = 1
cause_number causes.UnknownKey = 2
cause_number causes.Fields = 3
cause_number causes.Number = 4
cause_number causes.Range = 5
cause_number causes.Repeat = 6
cause_number causes.Missing = 7
cause_number causes.Clash = 8

-- the number of a fault, as in the header
abbrev pub fault_number : Why → ℕ
fault_number faults.Start = 0
fault_number faults.Bad = 1
fault_number faults.Crc = 2
fault_number faults.Protocol = 3
fault_number faults.Lost = 4
fault_number faults.End = 5

-- ---- results by their names

abbrev pub done : ℕ
done = number_of results.Done

abbrev pub out_of_memory : ℕ
out_of_memory = number_of results.OutOfMemory

abbrev pub bad_plan : ℕ
bad_plan = number_of results.BadPlan

abbrev pub no_receiver : ℕ
no_receiver = number_of results.NoReceiver

abbrev pub in_use : ℕ
in_use = number_of results.InUse

abbrev pub no_damage : ℕ
no_damage = number_of results.NoDamage

abbrev pub out_of_range : ℕ
out_of_range = number_of results.OutOfRange

abbrev pub no_lane : ℕ
no_lane = number_of results.NoLane

abbrev pub finished : ℕ
finished = number_of results.Finished

abbrev pub too_many : ℕ
too_many = number_of results.TooMany

abbrev pub no_packet : ℕ
no_packet = number_of results.NoPacket

abbrev pub passed : ℕ
passed = number_of results.Passed

abbrev pub no_transmitter : ℕ
no_transmitter = number_of results.NoTransmitter

abbrev pub no_channel : ℕ
no_channel = number_of results.NoChannel

abbrev pub no_inspector : ℕ
no_inspector = number_of results.NoInspector

abbrev pub no_checker : ℕ
no_checker = number_of results.NoChecker

abbrev pub waiting : ℕ
waiting = number_of results.Waiting

abbrev pub no_gatherer : ℕ
no_gatherer = number_of results.NoGatherer

abbrev pub part_byte : ℕ
part_byte = number_of results.PartByte

-- ---- the states of a lane

abbrev pub state_code : LaneState → ℕ
state_code states.Searching = 0
state_code states.WordLock = 1
state_code states.Declared = 2

abbrev pub code_of : Misuse → ℕ
code_of misuses.NoLane = no_lane
code_of misuses.Finished = finished
code_of misuses.TooMany = too_many
code_of misuses.NoPacket = no_packet

-- of a plan that is refused
abbrev pub plan_code : PlanError → ℕ
plan_code errors.OutOfMemory = out_of_memory
plan_code why = bad_plan

-- The premises of the laws on `gather` and `check` after `send` are met by a plan with its files: that of two lanes and one packet.
use Rattle.std.specs.Prelude.{◌≡◌, codes, [], Ok}
use Rattle.lk_outside.specs.Files.{Files, AreBytes}
use Rattle.link_commands.specs.PremisesMet.{plan_name, skewed_files, skewed_reading}
use Rattle.plan_inputs.specs.Inputs.{Reading, planned_in}
use Rattle.run_shell.specs.Outcome.{Outcome}
use Rattle.stream_commands.specs.Plan.{send_plan_work}
use Rattle.receive_commands.specs.Receive.{PlanLanes}
use Rattle.gather_commands.specs.Gather.{gather_meaning}
use Rattle.check_commands.specs.AfterBurst.{TellsNoFault}
use Rattle.check_commands.specs.Check.{check_meaning}
use Rattle.gathered_laws.specs.AfterSend.{ReadsGathered, ReadsLanes}

abbrev pub one_reading : Reading
one_reading = skewed_reading.reading

-- what the laws ask for: the plan is accepted without flow rows, the files hold what `send` wrote, and later what `gather` wrote; and
-- what they say: of 336 words the 168 from the fourth group on have no fault
pub record AfterSendMet : Type 0 where
  pub send : Outcome
  pub gathered : Outcome
  pub check : Outcome
  pub lanes : Files
  pub words : Files
  pub read : PlanLanes
  pub bytes : AreBytes skewed_files
  pub planned : planned_in skewed_files plan_name ≡ Ok one_reading
  pub no_flow : one_reading.inputs.flow ≡ []
  pub sends : (send_plan_work plan_name).IsMade one_reading send
  pub reads_sent : ReadsLanes plan_name one_reading.plan send lanes read
  pub gathers : (gather_meaning plan_name).IsOutcome lanes gathered
  pub reads_gathered : ReadsGathered plan_name one_reading gathered words
  pub checks : (check_meaning plan_name).IsOutcome words check
  pub tells : TellsNoFault (codes "o") 168 check

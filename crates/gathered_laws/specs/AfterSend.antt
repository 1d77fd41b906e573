-- The laws on `gather` after `send`, and on `check` after both.
use Rattle.std.specs.Prelude.{◌≡◌, ◌*◌, ◌<◌, ◌≤◌, ℕ, List, [], drop, length, map, Ok, Some}
use Rattle.lk_base.specs.Limits.{words_limit}
use Rattle.lk_base.specs.Link.{Settings, group_of}
use Rattle.lk_base.specs.Words.{as_sent}
use Rattle.lk_base.specs.declared.word.Word.{Word}
use Rattle.lk_outside.specs.Files.{Files, file, AreBytes}
use Rattle.lane_words.specs.WordsFile.{rx_words_file}
use Rattle.link_plan.specs.Plan.{PlanValue}
use Rattle.link_plan.specs.Timed.{flow_of}
use Rattle.plan_inputs.specs.Inputs.{Reading, plan_in, planned_in, rows_in}
use Rattle.run_shell.specs.Names.{lane_name, words_name}
use Rattle.run_shell.specs.Outcome.{Outcome, content_of}
use Rattle.stream_commands.specs.Outputs.{AreLaneOutputs}
use Rattle.stream_commands.specs.Plan.{IsOfPlan, send_plan_work}
use Rattle.receive_commands.specs.Receive.{PlanLanes, plan_lanes_in}
use Rattle.gather_commands.specs.Gather.{gather_meaning}
use Rattle.check_commands.specs.AfterBurst.{TellsNoFault}
use Rattle.check_commands.specs.Check.{check_meaning}

-- `gather` reads the lanes that a command wrote: of the same plan, from files that hold what the command gave to them
pub record ReadsLanes (name : List ℕ) (as_of : PlanValue) (written : Outcome) (files : Files) (read : PlanLanes) : Type 0 where
  pub is_read : plan_lanes_in files name ≡ Ok read
  pub plan : read.plan ≡ as_of
  pub sent : (lane : ℕ) → lane < as_of.settings.lanes → file files (lane_name as_of.out lane) ≡ content_of written.files (lane_name as_of.out lane)

-- the words of a stream over a link of these settings from its fourth group on
abbrev pub later_words : Settings → List Word → List Word
later_words s w = drop (3 * group_of s) w

-- what `send` sent is the stream w, and the words file of `gather` has its words from the fourth group on
pub record GathersStream (i : Reading) (send gathered : Outcome) : Type 0 where
  pub stream : List Word
  pub is_stream : IsOfPlan (AreLaneOutputs i.plan.settings i.plan.out) i stream send
  pub words : content_of gathered.files (words_name i.plan.out) ≡ Some (rx_words_file (map as_sent (later_words i.plan.settings stream)))

-- `gather` after `send` of one plan, whose inputs were accepted: where the plan and the lanes that `send` wrote stand
abbrev pub GatherAfterSend : Type 0
GatherAfterSend = (name : List ℕ) (i : Reading) (send gathered : Outcome) (before files : Files) (read : PlanLanes) →
    AreBytes before → planned_in before name ≡ Ok i → (send_plan_work name).IsMade i send →
    ReadsLanes name i.plan send files read → (gather_meaning name).IsOutcome files gathered → GathersStream i send gathered

-- `check` reads the words that `gather` wrote: of the same plan, whose flow file is read as the rows that `send` read, from a words
-- file within the limit of words files
pub record ReadsGathered (name : List ℕ) (i : Reading) (gathered : Outcome) (files : Files) : Type 0 where
  pub plan : plan_in files name ≡ Ok i.plan
  pub flow : rows_in files [] flow_of i.plan.flow ≡ Ok i.inputs.flow
  pub content : List ℕ
  pub given : content_of gathered.files (words_name i.plan.out) ≡ Some content
  pub there : file files (words_name i.plan.out) ≡ Some content
  pub fits : length content ≤ words_limit

-- `check` after `send` and `gather` of one plan without flow rows tells no fault: the words from the fourth group on, which begin in
-- the warm-up, break none of the rules
abbrev pub CheckAfterGather : Type 0
CheckAfterGather = (name : List ℕ) (i : Reading) (send gathered check : Outcome) (before lanes words : Files) (read : PlanLanes) →
    AreBytes before → planned_in before name ≡ Ok i → i.inputs.flow ≡ [] → (send_plan_work name).IsMade i send →
    ReadsLanes name i.plan send lanes read → (gather_meaning name).IsOutcome lanes gathered →
    ReadsGathered name i gathered words → (check_meaning name).IsOutcome words check →
    (w : List Word) × IsOfPlan (AreLaneOutputs i.plan.settings i.plan.out) i w send × TellsNoFault i.plan.out (length (later_words i.plan.settings w)) check

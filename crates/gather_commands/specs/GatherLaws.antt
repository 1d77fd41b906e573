-- What is known of what `gather` makes.
use Rattle.std.specs.Prelude.{ℕ, ◌≡◌, List}
use Rattle.run_shell.specs.Outcome.{Outcome}
use Rattle.run_shell.specs.Work.{IsWork}
use Rattle.receive_commands.specs.Receive.{PlanLanes}
use Rattle.gather_commands.specs.Gather.{IsGathered, gather_work}

-- what is read comes to one outcome, where files hold bytes there is one, and no stream is held
abbrev pub GatherIsWork : Type 0
GatherIsWork = (name : List ℕ) → IsWork (gather_work name)

-- the plan and the bytes of the lanes determine what is made
abbrev pub LanesDetermineGathered : Type 0
LanesDetermineGathered = (i : PlanLanes) (o p : Outcome) → IsGathered i o → IsGathered i p → o ≡ p

-- What `join` makes of the words that `gather` wrote.
use Rattle.std.specs.Prelude.{◌≡◌, ◌≤◌, ℕ, List, [], ◌∷◌, ◌++◌, length, map, IfSome, Ok}
use Rattle.lk_base.specs.Limits.{words_limit}
use Rattle.lk_outside.specs.Files.{Files, file}
use Rattle.pcap_files.specs.Names.{capture_name}
use Rattle.link_plan.specs.Plan.{PlanValue}
use Rattle.link_plan.specs.Listing.{channels_in_order}
use Rattle.link_plan.specs.Views.{numbers_in}
use Rattle.plan_inputs.specs.Inputs.{plan_in}
use Rattle.run_shell.specs.Names.{words_name}
use Rattle.run_shell.specs.Outcome.{Holds, Outcome, Output, names_of}
use Rattle.join_commands.specs.JoinPlan.{join_plan_meaning}
use Rattle.receive_commands.specs.Receive.{PlanLanes, plan_lanes_in, receive_meaning}
use Rattle.gather_commands.specs.Gather.{gather_meaning}

-- both have the same captures, one for each listed channel, and after them each a file of its own
pub record HaveSameCaptures (plan : PlanValue) (one other : Outcome) : Type 0 where
  pub captures : List Output
  pub named : names_of captures ≡ map (capture_name plan.out) (channels_in_order (numbers_in plan))
  pub one_last : Output
  pub one_files : one.files ≡ captures ++ one_last ∷ []
  pub other_last : Output
  pub other_files : other.files ≡ captures ++ other_last ∷ []

-- Where a plan and its lanes are accepted, and the files that `gather` makes of them stand: if the plan is still accepted as the same,
-- and the words file is within the limit of words files, then `join` delivers on each listed channel what `receive` delivers of the
-- lanes, in order.
abbrev pub JoinDeliversAsReceive : Type 0
JoinDeliversAsReceive = (name : List ℕ) (old new : Files) (i : PlanLanes) (gathered received joined : Outcome) →
    plan_lanes_in old name ≡ Ok i → (gather_meaning name).IsOutcome old gathered → (receive_meaning name).IsOutcome old received →
    Holds gathered.files old new → plan_in new name ≡ Ok i.plan → IfSome (file new (words_name i.plan.out)) (λ bytes. length bytes ≤ words_limit) →
    (join_plan_meaning name).IsOutcome new joined → HaveSameCaptures i.plan joined received

-- What is known of what `inspect` makes.
use Rattle.std.specs.Prelude.{◌≡◌, ℕ, List, [], ◌∷◌, ◌++◌}
use lib.Chars.{codes}
use Rattle.link_reports.specs.Lines.{line_end}
use Rattle.run_shell.specs.Outcome.{Outcome}
use Rattle.run_shell.specs.Work.{IsWork}
use Rattle.receive_commands.specs.Receive.{PlanLanes}
use Rattle.lane_events.specs.declared.types.EventKind.TheVariants as kinds
use Rattle.lane_events.specs.declared.types.LaneEvent.{LaneEvent}
use Rattle.inspect_commands.specs.Table.{events_table}
use Rattle.inspect_commands.specs.Inspect.{IsInspected, events_name, inspect_work, inspected_text}

-- what is read comes to one outcome, where files hold bytes there is one, and no stream is held
abbrev pub InspectIsWork : Type 0
InspectIsWork = (name : List ℕ) → IsWork (inspect_work name)

-- the plan and the bytes of the lanes determine what is made
abbrev pub LanesDetermineInspected : Type 0
LanesDetermineInspected = (i : PlanLanes) (o p : Outcome) → IsInspected i o → IsInspected i p → o ≡ p

-- of three lanes the first shows a lock, and a Diagnostic word that is not right; the second nothing; the third a search that is
-- given up
abbrev pub three_lanes : List (List LaneEvent)
three_lanes =
    (record { bit = 6443; kind = kinds.Lock } ∷ record { bit = 8989; kind = kinds.Diagnostic } ∷ [])
    ∷ []
    ∷ (record { bit = 12797; kind = kinds.Unframed } ∷ [])
    ∷ []

pub record WorkedTables : Type 0 where
  pub none : events_table ([] ∷ []) ≡ codes "lane,bit,event" ++ line_end
  pub three : events_table three_lanes ≡ codes "lane,bit,event" ++ (line_end ++ (codes "0,6443,lock" ++ (line_end ++ (codes "0,8989,diag" ++ (line_end ++ (codes "2,12797,unframed" ++ line_end))))))
  pub counted : inspected_text [] three_lanes ≡ codes "events 3" ++ line_end
  pub name : events_name (codes "o") ≡ codes "o.events.csv"

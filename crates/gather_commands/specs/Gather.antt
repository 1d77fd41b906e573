-- What `gather FILE` means, where FILE is a plan.
use Rattle.std.specs.Prelude.{◌≡◌, ℕ, List}
use Rattle.lk_base.specs.declared.word.Aligned.{Aligned}
use Rattle.lk_base.specs.Link.{IsLink}
use Rattle.lock_model.specs.declared.types.LaneReport.{LaneReport}
use Rattle.run_shell.specs.Outcome.{Outcome}
use Rattle.run_shell.specs.Meaning.{Meaning}
use Rattle.run_shell.specs.Work.{Work, meaning_by}
use Rattle.lane_receipts.specs.LaneReports.{AreLaneReports, lane_lines}
use Rattle.receive_commands.specs.Receive.{PlanLanes, lanes_work}
use Rattle.gather_commands.specs.Table.{gathered_names, gathered_outcome}
use Rattle.lane_words.specs.Items.{AreAllItems}

-- What the lanes of a plan come to: the words file of their words and the table of their places, and the lines of their reports
-- before those of what was gathered.
pub record IsGathered (i : PlanLanes) (o : Outcome) : Type 0 where
  -- as of every plan that is accepted
  pub link : IsLink i.plan.settings
  pub items : List Aligned
  pub are_items : AreAllItems i.plan.settings i.lanes items
  pub reports : List LaneReport
  pub are_reports : AreLaneReports i.plan.settings i.lanes reports
  pub is : o ≡ gathered_outcome i.plan.out (lane_lines 0 reports) items

-- The plan and its lanes are read as by `receive`. The lanes become the words file and the table of places, under names that begin
-- with the plan's `out`. No stream is held.
abbrev pub gather_work : List ℕ → Work
gather_work name = lanes_work IsGathered (λ plan. gathered_names plan.out) name

abbrev pub gather_meaning : List ℕ → Meaning
gather_meaning name = meaning_by (gather_work name)

use Rattle.std.proofs.Common.{◌∙◌, refl, ap, [], ◌∷◌, ◌++◌, List, ℕ}
use Rattle.link_reports.specs.Lines.{lane_line}
use Rattle.lane_receipts.proofs.LaneLines.{next_count, next_line, next_report, no_report}
use Rattle.gather_commands.proofs.lanes.lane_lines.Goals as goal

pub loop-lane-init : goal.loop-lane-init
loop-lane-init c = ([], refl, c.new-text.ensures.items, λ s fed items t stands lane report e. no_report lane report e)

pub loop-lane-preserved : goal.loop-lane-preserved
loop-lane-preserved c =
    let (reports, count, text, each) = c.loop-lane.invariant in
    let report = c.lane_report-report.result in
    let lane = c.loop-lane.lane in (
      reports ++ report ∷ [],
      next_count reports report lane count,
      c.in_ok-lane_line.ensures.ok ∙ ap (λ (t : List ℕ). t ++ lane_line lane report) text ∙ next_line reports report lane count,
      λ s fed items t stands k r e. next_report s t.rounds fed reports report lane count (λ j q f. each s fed items t stands j q f) (c.lane_report-report.ensures s fed items t stands) k r e,
    )

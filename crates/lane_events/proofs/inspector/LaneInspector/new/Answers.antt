-- A lane of which no bit came.
use Rattle.std.proofs.Common.{[], refl}
use Rattle.lane_events.proofs.Inspecting.{begins, no_lane_events, no_window}
use Rattle.lane_events.proofs.inspector.LaneInspector.new.Goals as goal

pub returns : goal.returns
returns c =
    let lock = c.in_ok-lock.ensures in
    (begins _ c.args.link.now lock.0 refl no_window (c.report-counted.ensures c.args.link.now [] lock.0), lock.1, no_lane_events c.args.link.now)

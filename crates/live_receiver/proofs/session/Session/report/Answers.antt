-- The report of a lane that is there.
use Rattle.std.proofs.Common.{rules, refl}
use Rattle.live_receiver.proofs.Feeding.{lane_is_absent, lane_is_there}
use Rattle.live_receiver.proofs.session.Session.report.Goals as goal

pub returns-then-lane-len : goal.returns-then-lane-len
returns-then-lane-len c =
    let absent = c.if-lane-len.true in
    let count = c.len.ensures in
    (refl, lane_is_absent c.args.self.now.receiver c.args.self.now.finished.items c.args.self.now.fed.items c.args.lane c.args.self.now.runs (search rules))

pub lane_report-requires : goal.lane_report-requires
lane_report-requires c =
    let there = c.if-lane-len.false in
    lane_is_there c.args.self.now.receiver c.args.self.now.finished.items c.args.self.now.fed.items c.args.lane c.args.self.now.runs (search rules)

pub returns : goal.returns
returns c =
    let there = c.if-lane-len.false in
    (lane_is_there c.args.self.now.receiver c.args.self.now.finished.items c.args.self.now.fed.items c.args.lane c.args.self.now.runs (search rules), c.lane_report.ensures)

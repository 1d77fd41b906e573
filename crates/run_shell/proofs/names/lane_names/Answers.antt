use Rattle.std.proofs.Common.{sym, subst, arith}
use Rattle.run_shell.specs.Outputs.{Differ}
use Rattle.run_shell.proofs.OutputNames.{one_more_name, lanes_differ}
use Rattle.run_shell.proofs.names.lane_names.Goals as goal

pub loop-lane-preserved : goal.loop-lane-preserved
loop-lane-preserved c = one_more_name c.args.prefix.now c.loop-lane.names.items c.push.new.self.items _ c.loop-lane.lane c.in_ok-push.ensures.items c.loop-lane.invariant c.in_ok-lane_name.ensures

pub returns-clause-differ : goal.returns-clause-differ
returns-clause-differ c =
    let few = c.ranges.lanes.fits in
    let end = c.loop-lane.auto.lane-end in
    subst Differ (sym c.loop-lane.invariant) (lanes_differ c.args.prefix.now c.loop-lane.lane (omega arith))

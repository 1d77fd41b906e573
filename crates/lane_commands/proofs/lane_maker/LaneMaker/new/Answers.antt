use Rattle.lane_commands.proofs.LaneMaking.{none_given}
use Rattle.lane_commands.proofs.lane_maker.LaneMaker.new.Goals as goal

pub returns-clause-fresh : goal.returns-clause-fresh
returns-clause-fresh c = none_given c.args.inputs.now c.in_ok-lanes.lanes c.in_ok-group.group.items c.keeps_limits.ensures c.in_ok-lanes.ensures.settings c.in_ok-group.ensures c.in_ok-lanes.ensures.none

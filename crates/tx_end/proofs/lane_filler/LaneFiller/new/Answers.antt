use Rattle.tx_end.proofs.LaneFiles.{all_none}
use Rattle.tx_end.proofs.lane_filler.LaneFiller.new.Goals as goal

pub returns-clause-none : goal.returns-clause-none
returns-clause-none c = all_none c.args.link.now c.in_ok-lanes.lanes.items c.in_ok-lanes.ensures.count c.in_ok-lanes.ensures.made

use Rattle.tx_end.proofs.LaneSteps.{begun}
use Rattle.tx_end.proofs.lane_writer.LaneWriter.new.Goals as goal

pub returns-clause-carries : goal.returns-clause-carries
returns-clause-carries c = begun _ c.args.link.now c.args.lane c.new.ensures c.new-2.ensures.codes c.new-3.ensures

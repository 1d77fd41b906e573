use Rattle.listing_commands.proofs.Given.{lane-text}
use Rattle.listing_commands.proofs.list_file.list_lane_file.Goals as goal

pub returns-clause-answers : goal.returns-clause-answers
returns-clause-answers c = lane-text c.args.bytes.now c.new-content.result.items c.list_lane.new.out.items c.in_ok-count.count c.new-content.ensures.items c.in_ok-count.ensures.lane

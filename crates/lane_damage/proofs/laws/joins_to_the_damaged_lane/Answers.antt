-- The law on calls.
use Rattle.lane_damage.proofs.Joins.{joins}
use Rattle.lane_damage.proofs.laws.joins_to_the_damaged_lane.Goals as goal

pub returns : goal.returns
returns c = joins

-- The running disparity.
use Rattle.lane_model.proofs.Disparities.{disparity_runs}
use Rattle.lane_model.proofs.laws.disparity_runs.Goals as goal

pub returns : goal.returns
returns c = disparity_runs

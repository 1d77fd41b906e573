-- What is kept of a lane.
use Rattle.std.specs.Prelude.{List}
use Rattle.lock_model.specs.declared.types.LaneStep.{LaneStep}
use Rattle.lane_lock.specs.Lane.{LaneView}

pub record StepsState : Type 0 where
  -- the locks of the bytes that came
  pub lock : LaneView
  -- the steps of the last bytes, one for each of their bits
  pub shown : List LaneStep

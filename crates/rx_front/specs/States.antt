-- What a front holds.
use Rattle.std.specs.Prelude.{ℕ, Bool, List}
use Rattle.lk_base.specs.declared.word.Aligned.{Aligned}
use Rattle.lock_model.specs.declared.types.LaneStep.{LaneStep}
use Rattle.lane_lock.specs.Lane as lock
use Rattle.deskew.specs.States as deskew

-- a lane of a receiver
pub record Lane : Type 0 where
  -- the bytes that no round took
  pub ring : List ℕ
  -- no further byte comes
  pub finished : Bool
  -- how many bytes were fed
  pub fed : ℕ
  -- the locks of the bytes that rounds took
  pub lock : lock.LaneView
  -- the steps of the last rounds, one for each bit of their bytes
  pub steps : List LaneStep

-- the front of a receiver
pub record State : Type 0 where
  pub lanes : List Lane
  -- the bits of the last rounds by which the clock has not moved yet
  pub left : ℕ
  pub deskew : deskew.State
  -- the words that the deskew gave and that are still to be taken
  pub waiting : List Aligned
  -- the last round found all lanes at their end
  pub over : Bool

-- with these lanes
abbrev pub with_lanes : List Lane → State → State
with_lanes lanes v = record { lanes = lanes; left = v.left; deskew = v.deskew; waiting = v.waiting; over = v.over }

-- What a live transmitter holds.
use Rattle.std.specs.Prelude.{List}
use Rattle.lk_base.specs.declared.word.Word.{Word}
use Rattle.live_stream.specs.declared.scheduler.LiveScheduler.{LiveScheduler}
use Rattle.live_lanes.specs.States.{Lanes}

pub record State : Type 0 where
  pub scheduler : LiveScheduler
  pub lanes : Lanes
  -- the row of words that was made last
  pub row : List Word

abbrev pub state : LiveScheduler → Lanes → List Word → State
state scheduler lanes row = record { scheduler = scheduler; lanes = lanes; row = row }

-- The steps of the bits of the last bytes.
use Rattle.std.specs.Prelude.{ℕ, ◌-◌, ◌<◌, List, ◌∷◌, ◌++◌, replicate}
use Rattle.lock_model.specs.declared.types.LaneStep.{LaneStep}
use Rattle.lock_model.specs.declared.types.LaneStep.TheVariants as steps
use Rattle.lock_model.specs.Low.{is_low}
use Rattle.rx_front.specs.declared.shown.Shown.{Shown}
use Rattle.rx_front.specs.declared.shown.Shown.TheVariants as shows

-- one for each of this many bits; a lane at its end has ended at each
abbrev pub steps_shown : ℕ → Shown → List LaneStep
steps_shown width shows.End = replicate width steps.Ended
steps_shown width shows.Quiet = replicate width steps.Nothing
steps_shown width (shows.Step place step) = replicate place steps.Nothing ++ step ∷ replicate (width - 1 - place) steps.Nothing

-- the bit is one of this many, and the step's bit position is below 2^60
abbrev pub IsWithin : ℕ → Shown → Type 0
IsWithin width shows.End = Unit {0}
IsWithin width shows.Quiet = Unit {0}
IsWithin width (shows.Step place step) = (place < width) × is_low step

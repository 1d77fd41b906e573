-- The steps that a lane shows, without the bits between them.
use Rattle.std.specs.Prelude.{Bool, true, false, cond, List, [], ◌∷◌}
use Rattle.lock_model.specs.declared.types.LaneStep.{LaneStep}
use Rattle.lock_model.specs.declared.types.LaneStep.TheVariants as steps

-- the step is not that of a bit that completes nothing
abbrev pub shows : LaneStep → Bool
shows steps.Nothing = false
shows (steps.Word w role at) = true
shows (steps.Locked at) = true
shows (steps.Lost why at) = true
shows steps.Ended = true

-- those of these steps that show something
abbrev pub shown_in : List LaneStep → List LaneStep
shown_in [] = []
shown_in (x ∷ xs) = cond (shows x) (x ∷ shown_in xs) (shown_in xs)

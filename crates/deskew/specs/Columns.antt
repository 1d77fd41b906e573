-- The steps of many ticks, lane by lane.
use Rattle.std.specs.Prelude.{ℕ, ◌≡◌, ◌≤◌, ◌+◌, ◌*◌, true, List, [], ◌∷◌, ◌++◌, length}
use Rattle.lk_base.specs.declared.word.Aligned.{Aligned}
use Rattle.lk_base.specs.Link.{Settings}
use Rattle.lock_model.specs.declared.types.LaneStep.{LaneStep}
use Rattle.lock_model.specs.Shows.{shown_in}
use Rattle.deskew.specs.States.{State}
use Rattle.deskew.specs.Steps.{steps_taken}
use Rattle.deskew.specs.Ticks.{AreTicks, ticks_of}
use Rattle.deskew.specs.Stands.{Stands, StandsAhead, most_ahead}
use Rattle.deskew.specs.Ahead.{AreLong, can_run_ahead, ticked_all}

-- lane i takes the steps that its column shows, lane i + 1 those that the next column shows, and so on
abbrev pub columns_taken : ℕ → List (List LaneStep) → State → State
columns_taken i [] d = d
columns_taken i (column ∷ columns) d = columns_taken (i + 1) columns (steps_taken i (shown_in column) d)

-- Columns of the same bits, one of each lane, are the ticks of these bits
abbrev pub ColumnsAreTicks : Type 0
ColumnsAreTicks = (d : State) (columns : List (List LaneStep)) (n : ℕ) → 1 ≤ n → 1 ≤ length d.lanes → length columns ≡ length d.lanes → AreLong n columns →
    columns_taken 0 columns d ≡ ticked_all d (ticks_of columns n)

-- Where it can run ahead, the bits of 64 words of each lane may be taken lane by lane before an item is given
abbrev pub BatchOfColumns : Type 0
BatchOfColumns = (d : State) (s : Settings) (ticks : List (List LaneStep)) (given : List Aligned) (columns : List (List LaneStep)) (n : ℕ) →
    can_run_ahead d ≡ true → n ≤ 67 * most_ahead → length columns ≡ s.lanes → AreLong n columns → AreTicks s (ticks ++ ticks_of columns n) →
    Stands d s ticks given → StandsAhead (columns_taken 0 columns d) s (ticks ++ ticks_of columns n) given

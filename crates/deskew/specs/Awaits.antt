-- Ticks that are taken outside an epoch while a lane keeps every group away.
use Rattle.std.specs.Prelude.{ℕ, ◌≡◌, ◌≤◌, ◌+◌, ◌*◌, nat_lt, ◌⊎◌, max, cond, Bool, true, false, ◌&&◌, List, [], ◌∷◌, ◌++◌, length}
use Rattle.std.specs.List.{list_all, list_any}
use Rattle.lk_base.specs.declared.word.Aligned.{Aligned}
use Rattle.lk_base.specs.Link.{Settings}
use Rattle.lock_model.specs.declared.types.LaneStep.{LaneStep}
use Rattle.deskew.specs.declared.phase.Phase.{Phase}
use Rattle.deskew.specs.declared.phase.Phase.TheVariants as phases
use Rattle.deskew.specs.States.{LaneState, State}
use Rattle.deskew.specs.Lanes.{has_lock}
use Rattle.deskew.specs.Ticks.{AreTicks, ticks_of}
use Rattle.deskew.specs.Stands.{GaveAll, Stands, StandsAhead, most_ahead}
use Rattle.deskew.specs.Ahead.{is_locked, keeps_lock, AreLong}
use Rattle.deskew.specs.Columns.{columns_taken}

abbrev pub is_outside : Phase → Bool
is_outside phases.First = true
is_outside phases.Between = true
is_outside (phases.Inside index) = false

-- the last of the last Syncs
abbrev pub highest : List LaneState → ℕ
highest [] = 0
highest (l ∷ ls) = max l.sync (highest ls)

-- no lock was declared of the lane; or its lock is lost, and its last Sync is too far before this bit position to be of one group
-- with a Sync there
abbrev pub lags : ℕ → ℕ → LaneState → Bool
lags bits high l = cond (has_lock l) (l.lost && nat_lt (l.sync + bits) high) true

-- all items that are known were given, no epoch goes on, and until some lane declares a lock no group can be
abbrev pub awaits_lock : State → Bool
awaits_lock d = d.settled && (is_outside d.phase && list_any (lags (67 * d.settings.deskew) (highest d.lanes)) d.lanes)

-- each lane is in a declared lock, or none of these steps of it declares one
abbrev pub AreKept : List LaneState → List (List LaneStep) → Type 0
AreKept [] columns = Unit {0}
AreKept (l ∷ ls) [] = Unit {0}
AreKept (l ∷ ls) (column ∷ columns) = ((is_locked l ≡ true) ⊎ (list_all keeps_lock column ≡ true)) × AreKept ls columns

-- Where it awaits a lock, and no lane declares one, the bits of 64 words of each lane may be taken lane by lane. Then no item is
-- known but those given before, and no step of those bits declares a lock
abbrev pub BatchAwaits : Type 0
BatchAwaits = (d : State) (s : Settings) (ticks : List (List LaneStep)) (given : List Aligned) (columns : List (List LaneStep)) (n : ℕ) →
    awaits_lock d ≡ true → n ≤ 67 * most_ahead → length columns ≡ s.lanes → AreLong n columns → AreKept d.lanes columns → AreTicks s (ticks ++ ticks_of columns n) →
    Stands d s ticks given → StandsAhead (columns_taken 0 columns d) s (ticks ++ ticks_of columns n) given × GaveAll s (ticks ++ ticks_of columns n) given ×
    (list_all (list_all keeps_lock) (ticks_of columns n) ≡ true)

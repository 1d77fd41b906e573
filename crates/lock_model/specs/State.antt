-- How far the search for the locks of a lane is.
use Rattle.std.specs.Prelude.{List, [], ◌∷◌, is_some, if◌then◌else◌}
use Rattle.lock_model.specs.declared.types.LaneState.{LaneState}
use Rattle.lock_model.specs.declared.types.LaneState.TheVariants as states
use Rattle.lock_model.specs.Locks.{Attempt}

-- after the last attempt: the next search where it is lost, and else its word lock, or the lock that was declared of it
abbrev pub state_after : Attempt → LaneState
state_after a =
    if is_some a.lost then states.Searching else
    if is_some a.declared then states.Declared else
    states.WordLock

-- after these attempts, all of a lane; the first search where there is none
abbrev pub state_of : List Attempt → LaneState
state_of [] = states.Searching
state_of (a ∷ []) = state_after a
state_of (a ∷ b ∷ rest) = state_of (b ∷ rest)

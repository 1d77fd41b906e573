-- The locks that lanes declare.
use Rattle.std.specs.Prelude.{ℕ, zero, suc, ◌-◌, nat_lt, cond, List, [], ◌∷◌, length, Option, Some, None}
use Rattle.std.specs.List.{cons_option}
use Rattle.lock_model.specs.declared.types.LaneStep.{LaneStep}
use Rattle.lock_model.specs.declared.types.LaneStep.TheVariants as steps
use Rattle.rx_front.specs.Lanes.{step_at}
use Rattle.rx_front.specs.States.{Lane, State}

-- the bit position of the lock that a step declares, if it declares one
abbrev pub lock_of : LaneStep → Option ℕ
lock_of steps.Nothing = None
lock_of (steps.Word w role at) = None
lock_of (steps.Locked at) = Some at
lock_of (steps.Lost why at) = None
lock_of steps.Ended = None

-- those that these steps declare, in order
abbrev pub locks_in : List LaneStep → List ℕ
locks_in [] = []
locks_in (x ∷ xs) = cons_option (lock_of x) (locks_in xs)

-- the lock that a lane declares at the last bit before this many of those of the last rounds
abbrev pub declared_by : ℕ → Lane → Option ℕ
declared_by left v = cond (nat_lt left (length v.steps)) (lock_of (step_at (length v.steps - left - 1) v)) None

abbrev pub declared_in : ℕ → ℕ → List Lane → Option ℕ
declared_in i left [] = None
declared_in zero left (v ∷ lanes) = declared_by left v
declared_in (suc i) left (v ∷ lanes) = declared_in i left lanes

-- the lock that lane number i declared at the bit that the clock passed last, if it declared one there
abbrev pub declared_at : ℕ → State → Option ℕ
declared_at i v = declared_in i v.left v.lanes

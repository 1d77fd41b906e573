-- How the front of a receiver stands to what was fed, and to the items that were taken of it.
use Rattle.std.specs.Prelude.{ℕ, suc, ◌≡◌, ◌≤◌, ◌+◌, ◌*◌, ◌==◌, ◌&&◌, Bool, true, false, cond, List, [], ◌∷◌, ◌++◌, length, replicate, Option, Some, None}
use Rattle.std.specs.List.{cons_option}
use Rattle.lk_base.specs.declared.word.Aligned.{Aligned}
use Rattle.lk_base.specs.Link.{Settings, IsLink}
use Rattle.lock_model.specs.declared.types.LaneStep.{LaneStep}
use Rattle.event_model.specs.Fed.{Fed, all_finished, longest}
use Rattle.event_model.specs.Given.{AreItems}
use Rattle.deskew.specs.Stands as deskew
use Rattle.deskew.specs.Ticks.{steps_in, ticks_of}
use Rattle.deskew.specs.Work.{work}
use Rattle.rx_front.specs.Lanes.{AllStand, bytes_left}
use Rattle.rx_front.specs.Locks.{declared_at, locks_in}
use Rattle.rx_front.specs.States.{State}

-- How far a front has come. `rounds` rounds were made, and the clock has run by `clock` of their bits; the columns are the steps
-- of each lane, one for each bit of the rounds.
pub record Progress : Type 0 where
  pub rounds : ℕ
  pub clock : ℕ
  pub columns : List (List LaneStep)

-- of this many lanes, before the first round
abbrev pub begun : ℕ → Progress
begun lanes = record { rounds = 0; clock = 0; columns = replicate lanes [] }

-- the locks that lane number i declared at the bits by which the clock has run
abbrev pub locks_at : ℕ → Progress → List ℕ
locks_at i t = locks_in (steps_in i (ticks_of t.columns t.clock))

-- whether the last round found all lanes at their end
abbrev pub AtRound : Bool → List Fed → ℕ → Type 0
AtRound false fed rounds = rounds ≤ longest fed
AtRound true fed rounds = (all_finished fed ≡ true) × (rounds ≡ suc (longest fed))

-- this was fed of each lane, these items were taken, and it has come so far
pub record Stands (v : State) (s : Settings) (fed : List Fed) (items : List Aligned) (t : Progress) : Type 0 where
  pub link : IsLink s
  pub lane_count : length fed ≡ s.lanes
  pub time : t.clock + v.left ≡ 8 * t.rounds
  -- the rings hold the bytes that no round took, and the locks are those of the bits that the rounds took
  pub lanes : AllStand v.lanes s t.rounds fed t.columns
  -- the deskew took the steps by which the clock has run, and gave the items that were taken and the words that wait; items that
  -- are known may wait in it
  pub deskew : deskew.StandsAhead v.deskew s (ticks_of t.columns t.clock) (items ++ v.waiting)
  pub at_round : AtRound v.over fed t.rounds

-- nothing is left to be taken of what the clock has shown
pub record Drained (v : State) (s : Settings) (fed : List Fed) (items : List Aligned) (t : Progress) : Type 0 where
  pub stands : Stands v s fed items t
  pub none : v.waiting ≡ []
  pub all : (known : List Aligned) → AreItems s t.clock fed known → known ≡ items
  pub settled : v.deskew.settled ≡ true

-- ---- answers

-- the next item; or none, where nothing is left
abbrev pub GivesItem : Option Aligned → State → Settings → List Fed → List Aligned → Progress → Type 0
GivesItem (Some item) v s fed items t = Stands v s fed (items ++ item ∷ []) t
GivesItem None v s fed items t = Drained v s fed items t

-- it has come further, and each lane declared these locks on the way
pub record Moves (v : State) (s : Settings) (fed : List Fed) (items : List Aligned) (t : Progress) (more : ℕ → List ℕ) : Type 0 where
  pub to : Progress
  pub stands : Stands v s fed items to
  pub locks : (i : ℕ) → locks_at i to ≡ locks_at i t ++ more i

-- a lock of a lane is the one that it declared at the bit that the clock passed last
abbrev pub MovesOn : State → Settings → List Fed → List Aligned → Progress → Type 0
MovesOn v s fed items t = Moves v s fed items t (λ i. cons_option (declared_at i v) [])

-- no lane declared a lock
abbrev pub MovesQuietly : State → Settings → List Fed → List Aligned → Progress → Type 0
MovesQuietly v s fed items t = Moves v s fed items t (λ i. [])

-- the last round found all lanes at their end, and the clock has passed all its bits
abbrev pub is_over : State → Bool
is_over v = v.over && (v.left == 0)

-- ---- measures

-- the bits and bytes that are still to be taken
abbrev pub weight : State → ℕ
weight v = v.left + 8 * bytes_left v.lanes + cond v.over 0 8

-- more than the items that may still be taken: those that the deskew may still give, and those that wait
abbrev pub items_left : State → ℕ
items_left v = 2 * work v.deskew + length v.waiting

-- What an inspector keeps of the bits of a lane.
use Rattle.std.specs.Prelude.{ℕ, ℤ, ◌≡◌, ◌≤◌, ◌+◌, ◌*◌, ◌/◌, ◌%◌, ◌^◌, Bool, true, false, List, [], ◌∷◌, ◌++◌, length, drop, map, Option, Some, None, is_some, if◌then◌else◌}
use Rattle.std.specs.List.{list_any, range_with_len}
use Rattle.std.specs.Int.Count.{ones_in}
use Rattle.lk_base.specs.Link.{Settings}
use Rattle.lane_model.specs.Bits.{high_number}
use Rattle.lane_model.specs.Coding.{disparity, excess}
use Rattle.lock_model.specs.declared.types.LaneReport.{LaneReport}
use Rattle.lock_model.specs.declared.types.LaneStep.{LaneStep}
use Rattle.lock_model.specs.Locks.{Attempt, AreAttempts, code_at}
use Rattle.lock_model.specs.Received.{Lock, lock_of}
use Rattle.lane_lock.specs.Lane.{LaneView}
use Rattle.lane_lock.specs.Standing.{IsReport, Stands}
use Rattle.lane_events.specs.declared.types.LaneEvent.{LaneEvent}
use Rattle.lane_events.specs.declared.word_events.WordEvents.{WordEvents}
use Rattle.lane_events.specs.EventLaw.{AreCounted}
use Rattle.lane_events.specs.Events.{AreLaneEvents, is_unbalanced, lane_events}
use Rattle.lane_events.specs.Steps.{balance_before, balance_behind, event_of, is_plain, told, unbalances}

-- ---- the events of one word

-- they, in order
abbrev pub events_in : WordEvents → List LaneEvent
events_in w = map (event_of w.bit) w.kinds.items

-- those from this place on
abbrev pub due_from : WordEvents → ℕ → List LaneEvent
due_from w n = map (event_of w.bit) (drop n w.kinds.items)

-- they, if the word shows any
abbrev pub events_if : Bool → WordEvents → List LaneEvent
events_if shows w = if shows then events_in w else []

-- the events of a word, if it shows any
abbrev pub shown_in : Option WordEvents → List LaneEvent
shown_in None = []
shown_in (Some w) = events_in w

-- ---- the inspector

-- the lock that goes on after these attempts, if one does
abbrev pub open_of : List Bool → List Attempt → Option Lock
open_of bits [] = None
open_of bits (a ∷ []) = if is_some a.lost then None else lock_of bits a
open_of bits (a ∷ b ∷ rest) = open_of bits (b ∷ rest)

-- the ones less the zeros in the codes of the first n words of the lock that is declared at this bit position, where they were never
-- unbalanced
abbrev pub balance_of : List Bool → ℕ → ℕ → Option ℤ
balance_of bits at n =
    if list_any (is_unbalanced bits at) (range_with_len 0 n) then None
    else Some (disparity (map (λ k. code_at bits (at + 67 * k)) (range_with_len 0 n)))

pub record InspectorView : Type 0 where
  -- the locks, and how many bits came
  pub lock : LaneView
  pub taken : ℕ
  -- the number of the last 128 bits
  pub window : ℕ
  -- the balance of the lock that goes on, if one does
  pub balance : Option ℤ
  -- a report that counts the events so far
  pub counted : LaneReport

-- the balance is that of the lock that goes on, if one does, whose words are there
abbrev pub Balances : Option ℤ → List Bool → Option Lock → Type 0
Balances balance bits None = Unit {0}
Balances balance bits (Some lock) = (balance ≡ balance_of bits lock.at lock.count) × (lock.at + 67 * lock.count ≤ length bits)

-- an inspector was given these bits
pub record Inspects (v : InspectorView) (s : Settings) (bits : List Bool) : Type 0 where
  pub stands : Stands v.lock s bits
  pub count : v.taken ≡ v.lock.taken
  pub window : v.window ≡ high_number bits % 2 ^ 128
  pub balances : (attempts : List Attempt) → AreAttempts s.metaframe bits attempts → Balances v.balance bits (open_of bits attempts)
  pub counts : (attempts : List Attempt) → AreAttempts s.metaframe bits attempts → AreCounted (lane_events s bits attempts) v.counted

-- events of further bits were found: with those that were given before, they are all events of the bits so far
abbrev pub Finds : InspectorView → InspectorView → List Bool → List LaneEvent → List LaneEvent → Type 0
Finds v w more before after = (s : Settings) (bits : List Bool) (given : List LaneEvent) → Inspects v s bits → AreLaneEvents s bits (given ++ before) →
    Inspects w s (bits ++ more) × AreLaneEvents s (bits ++ more) (given ++ after)

-- An inspector was given these bits more, which show these events.
pub record GoesOn (v w : InspectorView) (more : List Bool) (new : List LaneEvent) : Type 0 where
  -- it was given the bits before and these
  pub inspects : (s : Settings) (bits : List Bool) → Inspects v s bits → Inspects w s (bits ++ more)
  -- the events of all these bits are those of the bits before and then the new ones
  pub events : (s : Settings) (bits : List Bool) (events : List LaneEvent) → Inspects v s bits → AreLaneEvents s bits events → AreLaneEvents s (bits ++ more) (events ++ new)

-- these bits more show no event: the events of the bits before are all
abbrev pub ShowsNone : InspectorView → List Bool → Type 0
ShowsNone v more = (s : Settings) (bits : List Bool) (events : List LaneEvent) → Inspects v s bits → AreLaneEvents s bits events → AreLaneEvents s (bits ++ more) events

-- this many bits more came, which are this number: nothing else has changed but the locks
pub record IsPushed (v w : InspectorView) (count number : ℕ) : Type 0 where
  pub taken : w.taken ≡ v.taken + count
  pub counts : w.taken ≡ w.lock.taken
  pub window : w.window ≡ (v.window * 2 ^ count + number) % 2 ^ 128
  pub balance : w.balance ≡ v.balance
  pub counted : w.counted ≡ v.counted

-- the ones less the zeros in the code of the word after which this many bits came
abbrev pub excess_before : InspectorView → ℕ → ℤ
excess_before v further = excess 67 (ones_in 67 (v.window / 2 ^ further % 2 ^ 67))

-- the word of a step was told, after which this many bits came: nothing of the locks and the last bits has changed, and the events and
-- the balance are those of the step, with these reports before and after it
pub record IsShown (v w : InspectorView) (before after : LaneReport) (step : LaneStep) (further : ℕ) (given : WordEvents) : Type 0 where
  pub lock : w.lock ≡ v.lock
  pub taken : w.taken ≡ v.taken
  pub window : w.window ≡ v.window
  pub balance : w.balance ≡ balance_behind step (balance_before step v.balance) (excess_before v further)
  pub counted : w.counted ≡ after
  pub events : events_in given ≡ told step before after (unbalances (balance_before step v.balance) w.balance)

-- the word of a step was told, after which this many bits came, with the report after it: these are its events
pub record IsTold (v w : InspectorView) (step : LaneStep) (further : ℕ) (events : List LaneEvent) : Type 0 where
  pub report : LaneReport
  pub is_report : (s : Settings) (bits : List Bool) → Stands v.lock s bits → IsReport s bits report
  pub given : WordEvents
  pub shown : IsShown v w v.counted report step further given
  pub events_are : events ≡ events_in given

-- nothing has changed but the balance, which is this, and it was not lost
pub record IsCounted (v w : InspectorView) (now : Option ℤ) : Type 0 where
  pub lock : w.lock ≡ v.lock
  pub taken : w.taken ≡ v.taken
  pub window : w.window ≡ v.window
  pub balance : w.balance ≡ now
  pub balanced : unbalances v.balance w.balance ≡ false
  pub counted : w.counted ≡ v.counted

-- the word of a step was passed over, after which this many bits came: it shows nothing but a balance, and no balance either
pub record IsPassed (v w : InspectorView) (step : LaneStep) (further : ℕ) : Type 0 where
  pub plain : is_plain step ≡ true
  pub only_counted : IsCounted v w (balance_behind step v.balance (excess_before v further))

-- The laws on the events of a lane.
use Rattle.std.specs.Prelude.{ℕ, ◌≡◌, ◌≤◌, ◌<◌, ◌+◌, ◌==◌, ◌⊎◌, nat_le, Bool, List, ◌++◌, AllPairs, count_by, All, filter, length, take, drop, false, ◌^◌}
use Rattle.lk_base.specs.declared.word.Word.{Word}
use Rattle.lk_base.specs.Link.{Settings}
use Rattle.lk_base.specs.Words.{payload}
use Rattle.lane_model.specs.Coding.{codes_of, disparity}
use Rattle.lock_model.specs.declared.types.LaneReport.{LaneReport}
use Rattle.lock_model.specs.Locks.{Attempt, AreAttempts}
use Rattle.lock_model.specs.Report.{report_of}
use Rattle.lane_events.specs.declared.types.EventKind.{EventKind}
use Rattle.lane_events.specs.declared.types.EventKind.TheVariants as kinds
use Rattle.lane_events.specs.declared.types.LaneEvent.{LaneEvent}
use Rattle.lane_events.specs.Balance.{is_far_off}
use Rattle.lane_events.specs.Events.{AreLaneEvents}

-- any bits have events
abbrev pub EventsExist : Type 0
EventsExist = (s : Settings) (bits : List Bool) → (events : List LaneEvent) × AreLaneEvents s bits events

-- and determine them
abbrev pub EventsAreDetermined : Type 0
EventsAreDetermined = (s : Settings) (bits : List Bool) (one other : List LaneEvent) → AreLaneEvents s bits one → AreLaneEvents s bits other → one ≡ other

-- more bits change none of them, and have theirs after them
abbrev pub EarlierEventsStay : Type 0
EarlierEventsStay = (s : Settings) (bits more : List Bool) (one all : List LaneEvent) → 32 ≤ s.metaframe →
    AreLaneEvents s bits one → AreLaneEvents s (bits ++ more) all → (rest : List LaneEvent) × (all ≡ one ++ rest)

-- the word of an event, the 67 bits from the event's bit on, is among the first n bits
abbrev pub is_within : ℕ → LaneEvent → Bool
is_within n e = nat_le (e.bit + 67) n

-- the events of the first bits of a lane are those of its words that end with or before the last of these bits, and no others
abbrev pub EventsAreDue : Type 0
EventsAreDue = (s : Settings) (bits more : List Bool) (one all : List LaneEvent) → 32 ≤ s.metaframe →
    AreLaneEvents s bits one → AreLaneEvents s (bits ++ more) all → one ≡ filter (is_within (length bits)) all

-- ---- their order

-- the place of a kind in the order of the events of one word
abbrev pub kind_place : EventKind → ℕ
kind_place kinds.Bad = 0
kind_place kinds.Sync = 1
kind_place kinds.State = 2
kind_place kinds.Skip = 3
kind_place kinds.Diagnostic = 4
kind_place kinds.Health = 5
kind_place kinds.Balance = 6
kind_place kinds.Lock = 7
kind_place kinds.LostHeaders = 8
kind_place kinds.LostSync = 9
kind_place kinds.LostState = 10
kind_place kinds.Unframed = 11

-- at an earlier bit, or at the same bit and earlier in the order of the kinds
abbrev pub IsBefore : LaneEvent → LaneEvent → Type 0
IsBefore a b = (a.bit < b.bit) ⊎ ((a.bit ≡ b.bit) × (kind_place a.kind < kind_place b.kind))

-- of any two events the earlier one is before the other
abbrev pub EventsRise : Type 0
EventsRise = (s : Settings) (bits : List Bool) (events : List LaneEvent) → AreLaneEvents s bits events → AllPairs IsBefore events

-- ---- their counts

abbrev pub count_of : EventKind → List LaneEvent → ℕ
count_of kind events = count_by (λ e. kind_place e.kind == kind_place kind) events

-- they are as many as the report says
pub record AreCounted (events : List LaneEvent) (report : LaneReport) : Type 0 where
  pub bad : count_of kinds.Bad events ≡ report.bad
  pub sync : count_of kinds.Sync events ≡ report.sync
  pub state : count_of kinds.State events ≡ report.state
  pub diag : count_of kinds.Diagnostic events ≡ report.diag
  pub locks : count_of kinds.Lock events ≡ report.locks
  pub lost : count_of kinds.LostHeaders events + count_of kinds.LostSync events + count_of kinds.LostState events ≡ report.lost
  pub unframed : count_of kinds.Unframed events ≡ report.unframed

abbrev pub EventsAreCounted : Type 0
EventsAreCounted = (s : Settings) (bits : List Bool) (events : List LaneEvent) (attempts : List Attempt) →
    AreLaneEvents s bits events → AreAttempts s.metaframe bits attempts → AreCounted events (report_of s bits attempts)

-- ---- what no sender shows

-- The codes of words, as a sender makes them, are never over 129 more ones than zeros, or zeros than ones, from whichever word on
-- they are counted, and however many: so none of its locks is unbalanced.
abbrev pub SendersAreBalanced : Type 0
SendersAreBalanced = (words : List Word) (m n : ℕ) → All (λ w. payload w < 2 ^ 64) words → is_far_off (disparity (take n (drop m (codes_of words)))) ≡ false

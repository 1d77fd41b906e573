-- One lane as it is inspected while it comes, and what the calls on it do.
use Rattle.std.specs.Prelude.{ℕ, ◌≡◌, ◌≤◌, ◌+◌, ◌^◌, ◌&&◌, Bool, true, false, List, [], ◌∷◌, ◌++◌, length, take, nat_lt, Option, Some, None, Result, Ok, Err, if◌then◌else◌}
use Rattle.lk_base.specs.Checksum.{bits_of_bytes}
use Rattle.lk_base.specs.Link.{Settings}
use Rattle.lane_events.specs.declared.types.LaneEvent.{LaneEvent}
use Rattle.lane_events.specs.Events.{AreLaneEvents}
use Rattle.lane_events.specs.Inspection.{Inspects, InspectorView}
use Rattle.live_inspector.specs.declared.misuse.Misuse.{Misuse}
use Rattle.live_inspector.specs.declared.misuse.Misuse.TheVariants as misuses

-- ---- what a lane holds

pub record Lane : Type 0 where
  pub inspector : InspectorView
  -- how many of its bytes were taken
  pub taken : ℕ
  -- the events of its last word that are due, in order
  pub due : List LaneEvent
  -- no further byte of it comes
  pub finished : Bool

-- ---- what happened to it

pub record Told : Type 0 where
  -- the bytes that were taken of it
  pub bytes : List ℕ
  -- the events of it that were given
  pub given : List LaneEvent

-- no byte was taken, and no event given
abbrev pub untold : Told
untold = record { bytes = []; given = [] }

-- these bytes more were taken
abbrev pub took : List ℕ → Told → Told
took bytes t = record { bytes = t.bytes ++ bytes; given = t.given }

-- this event more was given
abbrev pub gave : LaneEvent → Told → Told
gave event t = record { bytes = t.bytes; given = t.given ++ event ∷ [] }

-- a lane stands so after this happened to it
pub record Stands (s : Settings) (l : Lane) (t : Told) : Type 0 where
  -- its inspector was given the bits of the bytes that were taken
  pub inspects : Inspects l.inspector s (bits_of_bytes t.bytes)
  pub count : l.taken ≡ length t.bytes
  -- the events that were given, and then those that are due, are the events of these bits
  pub events : AreLaneEvents s (bits_of_bytes t.bytes) (t.given ++ l.due)

-- ---- the calls

-- a lane to which nothing happened
abbrev pub IsFresh : Settings → Lane → Type 0
IsFresh s l = Stands s l untold × (l.finished ≡ false)

-- a lane that was finished takes no byte and no end
abbrev pub finish_misuse : Lane → Option Misuse
finish_misuse l = if l.finished then Some misuses.Finished else None

-- nor does a lane of 2^40 bytes or more take a byte, and no lane takes a piece that is as long
abbrev pub feed_misuse : Lane → ℕ → Option Misuse
feed_misuse l count = if l.finished then Some misuses.Finished else (if nat_lt l.taken (2 ^ 40) && nat_lt count (2 ^ 40) then None else Some misuses.TooMany)

-- the first n bytes of a piece were taken
pub record Takes (l m : Lane) (piece : List ℕ) (n : ℕ) : Type 0 where
  pub within : n ≤ length piece
  -- while events are due none is taken
  pub waits : (l.due ≡ [] → ⊥) → n ≡ 0
  -- if none is due before and after, all are
  pub all : l.due ≡ [] → m.due ≡ [] → n ≡ length piece
  -- at most six bytes are taken past the byte that shows an event: all bytes but the last seven show none
  pub soon : (k : ℕ) → k + 7 ≤ n → (s : Settings) (t : Told) → Stands s l t → AreLaneEvents s (bits_of_bytes (t.bytes ++ take k piece)) (t.given ++ l.due)
  -- nothing else happened
  pub stands : (s : Settings) (t : Told) → Stands s l t → Stands s m (took (take n piece) t)
  pub count : m.taken ≡ l.taken + n
  pub finished : m.finished ≡ l.finished

-- a call that is misused leaves the lane as it was
abbrev pub IsFeed : Lane → Lane → List ℕ → Result ℕ Misuse → Type 0
IsFeed l m piece (Ok n) = (feed_misuse l (length piece) ≡ None) × Takes l m piece n
IsFeed l m piece (Err why) = (feed_misuse l (length piece) ≡ Some why) × (m ≡ l)

abbrev pub IsFinish : Lane → Lane → Result (Unit {0}) Misuse → Type 0
IsFinish l m (Ok u) = (finish_misuse l ≡ None) × (m ≡ record l { finished = true })
IsFinish l m (Err why) = (finish_misuse l ≡ Some why) × (m ≡ l)

-- The laws on any calls, in any order.
use Rattle.std.specs.Prelude.{ℕ, ◌≡◌, ◌<◌, ◌+◌, ◌*◌, ◌==◌, cond, List, [], ◌∷◌, ◌++◌, filter, length, get_or, take, Option, Some, None, Result, Ok, Err}
use Rattle.lk_base.specs.Checksum.{bits_of_bytes}
use Rattle.lk_base.specs.Link.{Settings}
use Rattle.lane_events.specs.declared.types.LaneEvent.{LaneEvent}
use Rattle.lane_events.specs.EventLaw.{is_within}
use Rattle.lane_events.specs.Events.{AreLaneEvents}
use Rattle.live_inspector.specs.Calls.{AreFresh, FeedsLane, FinishesLane, IsNext, event_of}
use Rattle.live_inspector.specs.Lanes.{Lane, Stands, Takes, Told, gave, took, untold}
use Rattle.live_inspector.specs.declared.misuse.Misuse.{Misuse}
use Rattle.live_inspector.specs.declared.types.LiveEvent.{LiveEvent}

-- a call, with its arguments and its answer
pub data Call : Type 0 where
  Feed : (lane : ℕ) (piece : List ℕ) (answer : Result ℕ Misuse) → Call
  Finish : (lane : ℕ) (answer : Result (Unit {0}) Misuse) → Call
  Next : (answer : Option LiveEvent) → Call
  -- a report, which changes nothing
  Look : Call

-- a call leads from some lanes to others
abbrev pub Leads : Call → List Lane → List Lane → Type 0
Leads (Feed lane piece answer) old new = FeedsLane old new lane piece answer
Leads (Finish lane answer) old new = FinishesLane old new lane answer
Leads (Next answer) old new = IsNext old new answer
Leads Look old new = new ≡ old

-- what happened to each lane, by its number
abbrev pub History : Type 0
History = ℕ → Told

-- this happened to one lane, and nothing to another
abbrev pub with_told : ℕ → (Told → Told) → History → History
with_told lane change h = λ i. cond (i == lane) (change (h i)) (h i)

-- what happened to the lanes after a call
abbrev pub told_after : Call → History → History
told_after (Feed lane piece (Ok n)) h = with_told lane (took (take n piece)) h
told_after (Feed lane piece (Err why)) h = h
told_after (Finish lane answer) h = h
told_after (Next (Some e)) h = with_told e.lane (gave (event_of e)) h
told_after (Next None) h = h
told_after Look h = h

-- calls one after another, with what happened before them and after them
abbrev pub AreCalls : List Lane → History → List Call → List Lane → History → Type 0
AreCalls old h [] new k = (old ≡ new) × (h ≡ k)
AreCalls old h (call ∷ calls) new k = (mid : List Lane) × Leads call old mid × AreCalls mid (told_after call h) calls new k

-- these lanes of a link, of which nothing was taken at first, are so after some calls, after which this happened to each
abbrev pub ComesTo : Settings → List Call → List Lane → History → Type 0
ComesTo s calls lanes h = (fresh : List Lane) × AreFresh s fresh × AreCalls fresh (λ i. untold) calls lanes h

-- After any calls each lane stands so.
abbrev pub CallsStand : Type 0
CallsStand = (s : Settings) (calls : List Call) (lanes : List Lane) (h : History) → ComesTo s calls lanes h →
    (length lanes ≡ s.lanes) × ((i : ℕ) (d : Lane) → i < s.lanes → Stands s (get_or lanes i d) (h i))

-- After any calls the events that were given of a lane are the first events of that lane, however it goes on.
abbrev pub GivenAreFirst : Type 0
GivenAreFirst = (s : Settings) (calls : List Call) (lanes : List Lane) (h : History) (i : ℕ) (more : List ℕ) (all : List LaneEvent) → ComesTo s calls lanes h → i < s.lanes →
    AreLaneEvents s (bits_of_bytes ((h i).bytes ++ more)) all → (rest : List LaneEvent) × (all ≡ (h i).given ++ rest)

-- After any calls, if then no event is given, the events that were given of a lane are all events of the bytes that were taken of it: of
-- the lane, in whatever pieces and order it came.
abbrev pub AllAreGiven : Type 0
AllAreGiven = (s : Settings) (calls : List Call) (lanes : List Lane) (h : History) (i : ℕ) (events : List LaneEvent) → ComesTo s calls lanes h → IsNext lanes lanes None → i < s.lanes →
    AreLaneEvents s (bits_of_bytes (h i).bytes) events → (h i).given ≡ events

-- After any calls the events that were given of a lane, and then those that are due, are all events of the words that end within the
-- bytes that were taken of it, and no others, however the lane goes on.
abbrev pub EventsAreInTime : Type 0
EventsAreInTime = (s : Settings) (calls : List Call) (lanes : List Lane) (h : History) (i : ℕ) (d : Lane) (more : List ℕ) (all : List LaneEvent) → ComesTo s calls lanes h → i < s.lanes →
    AreLaneEvents s (bits_of_bytes ((h i).bytes ++ more)) all → (h i).given ++ (get_or lanes i d).due ≡ filter (is_within (8 * length (h i).bytes)) all

-- A call that takes bytes takes at most six bytes past the one in which the word of the first event that is then due ends.
abbrev pub FeedStopsSoon : Type 0
FeedStopsSoon = (s : Settings) (l m : Lane) (piece : List ℕ) (n : ℕ) (t : Told) (first : LaneEvent) (others : List LaneEvent) → Stands s l t → Takes l m piece n →
    l.due ≡ [] → m.due ≡ first ∷ others → 8 * (length t.bytes + n) < first.bit + 67 + 56

-- What the calls on a session do. A call that is misused leaves it as it was.
use Rattle.std.specs.Prelude.{ℕ, ◌≡◌, ◌-◌, ◌<◌, ◌≤◌, ◌++◌, Bool, true, false, List, Option, Some, None, Result, Ok, Err, length, min, take, drop}
use Rattle.lk_base.specs.Link.{Settings}
use Rattle.link_plan.specs.Listing.{is_listed}
use Rattle.lock_model.specs.declared.types.LaneReport.{LaneReport}
use Rattle.lock_model.specs.declared.types.LaneState.{LaneState}
use Rattle.receive_model.specs.Events.{Event, Setting}
use Rattle.event_model.specs.Fed.{Fed}
use Rattle.rx_front.specs.Calls.{IsReportOf, IsStateOf, fed_more, finished_at, room_at}
use Rattle.rx_end.specs.declared.event.RxEvent.{RxEvent}
use Rattle.rx_end.specs.Nexts.{IsNext}
use Rattle.rx_end.specs.States.{State}
use Rattle.rx_end.specs.Standing.{Stands}
use Rattle.live_receiver.specs.FarEnd.{Hears, IsOnNow}
use Rattle.live_receiver.specs.Misuses.{feed_misuse, lane_misuse}
use Rattle.live_receiver.specs.Runs.{is_lent}
use Rattle.c_parts.specs.declared.misuse.Misuse.{Misuse}
use Rattle.c_parts.specs.declared.misuse.Misuse.TheVariants as misuses
use Rattle.live_receiver.specs.declared.session.Session.{Session}

-- the receiver w is as v, if what was fed is changed so
abbrev pub Changes : (List Fed → List Fed) → State → State → Type 0
Changes change v w = (s : Settings) (setting : Setting) (fed : List Fed) (given : List Event) → Stands v s setting fed given → Stands w s setting (change fed) given

-- the packet that was given last stays, with its bytes, or that the last event was none; so do what the far end told, and the channels
pub record KeepsGiven (s t : Session) : Type 0 where
  pub bytes : t.receiver.reassembly ≡ s.receiver.reassembly
  pub lends : t.lends ≡ s.lends
  pub far : t.far ≡ s.far
  pub channels : t.channels ≡ s.channels

-- A lane takes the longest prefix of the piece that its ring has room for. Nothing else is fed, and nothing is dropped
abbrev pub IsFeed : Session → Session → ℕ → List ℕ → Result ℕ Misuse → Type 0
IsFeed s t lane piece (Ok n) =
    (feed_misuse s.receiver lane (length piece) ≡ None) × (n ≡ min (length piece) (room_at lane s.receiver.front.lanes)) × Changes (fed_more lane (take n piece)) s.receiver t.receiver × KeepsGiven s t
IsFeed s t lane piece (Err why) = (feed_misuse s.receiver lane (length piece) ≡ Some why) × (t ≡ s)

-- no further byte of the lane is fed
abbrev pub IsFinish : Session → Session → ℕ → Result (Unit {0}) Misuse → Type 0
IsFinish s t lane (Ok u) = (lane_misuse s.receiver lane ≡ None) × Changes (finished_at lane) s.receiver t.receiver × KeepsGiven s t
IsFinish s t lane (Err why) = (lane_misuse s.receiver lane ≡ Some why) × (t ≡ s)

-- the next event is given, or none; of a packet the bytes can be read, and of a control word it is heard what the far end tells
abbrev pub IsNextOf : Session → Session → Option RxEvent → Type 0
IsNextOf s t answer = IsNext s.receiver t.receiver answer × (t.lends ≡ is_lent answer) × Hears s.far t.far answer × (t.channels ≡ s.channels)

-- if the last event was a packet, bytes of it are copied, from the offset on, as many as there is room for
abbrev pub IsRead : Session → ℕ → List ℕ → List ℕ → Result ℕ Misuse → Type 0
IsRead s offset old new (Ok n) =
    (s.lends ≡ true) × (n ≡ min (length old) (length s.receiver.reassembly.packet - offset)) × (new ≡ take n (drop offset s.receiver.reassembly.packet) ++ drop n old)
IsRead s offset old new (Err why) = (s.lends ≡ false) × (why ≡ misuses.NoPacket) × (new ≡ old)

-- a report is over the bytes that were taken of the lane's ring
abbrev pub IsReport : Session → ℕ → Result LaneReport Misuse → Type 0
IsReport s lane (Ok report) = (lane < length s.receiver.front.lanes) ×
    ((settings : Settings) (setting : Setting) (fed : List Fed) (given : List Event) (stands : Stands s.receiver settings setting fed given) →
    IsReportOf settings stands.progress.rounds lane fed report)
IsReport s lane (Err why) = (why ≡ misuses.NoLane) × (length s.receiver.front.lanes ≤ lane)

-- a state is that after the bytes that were taken of the lane's ring
abbrev pub IsLaneState : Session → ℕ → Result LaneState Misuse → Type 0
IsLaneState s lane (Ok state) = (lane < length s.receiver.front.lanes) ×
    ((settings : Settings) (setting : Setting) (fed : List Fed) (given : List Event) (stands : Stands s.receiver settings setting fed given) →
    IsStateOf settings stands.progress.rounds lane fed state)
IsLaneState s lane (Err why) = (why ≡ misuses.NoLane) × (length s.receiver.front.lanes ≤ lane)

-- true if the far end's channel is on, by what was heard; nothing of a channel that is not listed
abbrev pub IsChannelState : Session → ℕ → Option Bool → Type 0
IsChannelState s channel (Some on) = (is_listed s.channels.items channel ≡ true) × IsOnNow s.far channel on
IsChannelState s channel None = is_listed s.channels.items channel ≡ false

-- The law on any calls on a receiver, in any order.
use Rattle.std.specs.Prelude.{ℕ, ◌≡◌, ◌++◌, Bool, List, [], ◌∷◌, length, min, take, drop, ◌-◌, Option, Some, None, is_some, IfSome, Result, Ok, Err}
use Rattle.link_plan.specs.Listing.{is_listed, numbers_of}
use Rattle.link_plan.specs.declared.plan.Plan.{Plan}
use Rattle.receive_model.specs.Events.{Event, Setting}
use Rattle.event_model.specs.Fed.{AllBegin, Fed}
use Rattle.event_model.specs.Given.{AreEvents}
use Rattle.reassembly.specs.Settings.{IsSettingOf}
use Rattle.rx_front.specs.Calls.{fed_more, finished_at, nothing_fed}
use Rattle.lk_base.specs.declared.position.Pos.{Pos}
use Rattle.rx_end.specs.declared.event.RxEvent.{RxEvent}
use Rattle.rx_end.specs.declared.event.RxEvent.TheVariants as events
use Rattle.rx_end.specs.Standing.{IsUnfed, event_of}
use Rattle.live_receiver.specs.Calls.{IsChannelState, IsFeed, IsFinish, IsNextOf, IsRead}
use Rattle.live_receiver.specs.FarEnd.{HasHeard, is_on_by}
use Rattle.live_receiver.specs.Opens.{IsOfPlan}
use Rattle.c_parts.specs.declared.misuse.Misuse.{Misuse}
use Rattle.c_parts.specs.declared.misuse.Misuse.TheVariants as misuses
use Rattle.live_receiver.specs.declared.session.Session.{Session}

-- a call, with its arguments and its answer
pub data Call : Type 0 where
  Feed : (lane : ℕ) (piece : List ℕ) (answer : Result ℕ Misuse) → Call
  Finish : (lane : ℕ) (answer : Result (Unit {0}) Misuse) → Call
  Next : (answer : Option RxEvent) → Call
  -- a read or a report, which changes nothing
  Look : Call

-- a call leads from one session to another
abbrev pub Leads : Call → Session → Session → Type 0
Leads (Feed lane piece answer) s t = IsFeed s t lane piece answer
Leads (Finish lane answer) s t = IsFinish s t lane answer
Leads (Next answer) s t = IsNextOf s t answer
Leads Look s t = t ≡ s

-- what was fed after a call
abbrev pub fed_after : Call → List Fed → List Fed
fed_after (Feed lane piece (Ok n)) fed = fed_more lane (take n piece) fed
fed_after (Feed lane piece (Err why)) fed = fed
fed_after (Finish lane (Ok u)) fed = finished_at lane fed
fed_after (Finish lane (Err why)) fed = fed
fed_after (Next answer) fed = fed
fed_after Look fed = fed

-- the events that were given after a call that led to this session, whose packet is lent
abbrev pub given_after : Call → Session → List Event → List Event
given_after (Next (Some event)) t given = given ++ event_of t.receiver.reassembly.packet event
given_after (Next None) t given = given
given_after (Feed lane piece answer) t given = given
given_after (Finish lane answer) t given = given
given_after Look t given = given

-- calls one after another, with what was fed and what was given before them and after them
abbrev pub AreCalls : Session → List Fed → List Event → List Call → Session → List Fed → List Event → Type 0
AreCalls s fed given [] t fed' given' = (s ≡ t) × (fed ≡ fed') × (given ≡ given')
AreCalls s fed given (call ∷ calls) t fed' given' =
    (u : Session) × Leads call s u × AreCalls u (fed_after call fed) (given_after call u given) calls t fed' given'

-- after any calls the events that were given are the first of those of all lanes whose bytes begin with what was fed, and are
-- equal to it on finished lanes
abbrev pub CallsGiveFirst : Type 0
CallsGiveFirst = (plan : Plan) (setting : Setting) (s t : Session) (calls : List Call) (fed : List Fed) (given all : List Event) (lanes : List (List ℕ)) →
    IsSettingOf setting (numbers_of plan.channels.items) plan.link.max_packet plan.wide → IsUnfed plan s.receiver → AreCalls s (nothing_fed plan.link.lanes) [] calls t fed given →
    AllBegin fed lanes → AreEvents plan.link setting lanes all → (rest : List Event) × (all ≡ given ++ rest)

-- calls one after another, none of which is a `next`
abbrev pub AreOthers : Session → List Call → Session → Type 0
AreOthers s [] t = s ≡ t
AreOthers s (Next answer ∷ calls) t = ⊥
AreOthers s (Feed lane piece answer ∷ calls) t = (u : Session) × IsFeed s u lane piece answer × AreOthers u calls t
AreOthers s (Finish lane answer ∷ calls) t = (u : Session) × IsFinish s u lane answer × AreOthers u calls t
AreOthers s (Look ∷ calls) t = (u : Session) × (u ≡ s) × AreOthers u calls t

-- a read is done, and copies bytes of this packet, from the offset on
abbrev pub IsReadOf : List ℕ → ℕ → List ℕ → List ℕ → Result ℕ Misuse → Type 0
IsReadOf packet offset old new answer =
    (n : ℕ) × (answer ≡ Ok n) × (n ≡ min (length old) (length packet - offset)) × (new ≡ take n (drop offset packet) ++ drop n old)

-- After `next` gave a packet, and any other calls, a read copies bytes of that packet: those that `given_after` has for the event.
abbrev pub ReadsThePacket : Type 0
ReadsThePacket = (s t u : Session) (channel count : ℕ) (first last : Pos) (calls : List Call) (offset : ℕ) (old new : List ℕ) (answer : Result ℕ Misuse) →
    Leads (Next (Some (events.Packet channel count first last))) s t → AreOthers t calls u → IsRead u offset old new answer →
    IsReadOf t.receiver.reassembly.packet offset old new answer

-- Before the first `next`, and after any other calls, there is no packet to read
abbrev pub ReadsNoPacket : Type 0
ReadsNoPacket = (bytes : List ℕ) (s t : Session) (calls : List Call) (offset : ℕ) (old new : List ℕ) (answer : Result ℕ Misuse) →
    IsOfPlan bytes s → AreOthers s calls t → IsRead t offset old new answer → (answer ≡ Err misuses.NoPacket) × (new ≡ old)

-- there is an answer of a channel if it is listed, and only then; the channel is on by the events that were given
pub record IsHeard (entries : List ℕ) (s : Session) (given : List Event) (channel : ℕ) (answer : Option Bool) : Type 0 where
  pub listed : is_some answer ≡ is_listed s.channels.items channel
  pub on : IfSome answer (λ on. on ≡ is_on_by entries given channel)

-- After any calls a channel of the far end is on by the events that were given: by the words and the spans among them
abbrev pub ChannelsAreHeard : Type 0
ChannelsAreHeard = (entries : List ℕ) (s t : Session) (calls : List Call) (fed fed' : List Fed) (given : List Event) (channel : ℕ) (answer : Option Bool) →
    HasHeard s.far entries [] → AreCalls s fed [] calls t fed' given → IsChannelState t channel answer → IsHeard entries s given channel answer

-- The calendar of the far end has taken what the given events say, after any calls.
use Rattle.std.specs.Prelude.{Vec}
use Rattle.std.specs.Global.{Global}
use Rattle.std.proofs.Common.{Bool, Option, ℕ, ◌≡◌, ◌≤◌, refl, sym, ap, ◌∙◌, subst, All, List, [], ◌∷◌, ◌++◌, Some, None, Ok, Err, lit≤}
use Rattle.std.proofs.lemmas.List.{append-nil}
use Rattle.std.proofs.lemmas.List.Concat.{flat_map-append}
use Rattle.std.proofs.lemmas.List.Elements.{All-nil, All-cons}
use Rattle.stream_model.specs.declared.rows.FlowRow.{FlowRow}
use Rattle.receive_model.specs.Events.{Event, Delivered, Dropped, FaultSpan, Flow}
use Rattle.event_model.specs.Fed.{Fed}
use Rattle.rx_end.specs.declared.event.RxEvent.{RxEvent}
use Rattle.rx_end.specs.declared.event.RxEvent.TheVariants as events
use Rattle.rx_end.specs.Standing.{event_of}
use Rattle.calendar.specs.declared.incoming.CalendarIn.{CalendarIn}
use Rattle.duplex_model.specs.DuplexRun.{heard_word}
use Rattle.link_plan.specs.Listing.{is_listed}
use Rattle.live_receiver.specs.Calls.{IsChannelState}
use Rattle.live_receiver.specs.CallsLaw.{AreCalls, Call, ChannelsAreHeard, IsHeard, Feed, Finish, Next, Look, Leads, fed_after, given_after}
use Rattle.live_receiver.specs.FarEnd.{HasHeard, at_once, heard_in, heard_now, heard_of}
use Rattle.live_receiver.specs.declared.session.Session.{Session}

-- each row counts at once
abbrev at_start : FlowRow → Type 0
at_start row = row.slot ≤ 0

all_at_once : (given : List Event) → All at_start (heard_in given)
all_at_once [] = All-nil at_start
all_at_once (Delivered channel packet ∷ given) = all_at_once given
all_at_once (Dropped channel why ∷ given) = all_at_once given
all_at_once (FaultSpan span ∷ given) = All-cons at_start (at_once 0) (heard_in given) (lit≤ tt) (all_at_once given)
all_at_once (Flow at word ∷ given) = All-cons at_start (at_once (heard_word word)) (heard_in given) (lit≤ tt) (all_at_once given)

-- an event says what `next` answers of it
heard_event : (bytes : List ℕ) (event : RxEvent) → heard_in (event_of bytes event) ≡ heard_now event
heard_event bytes (events.Packet channel length first last) = refl
heard_event bytes (events.Dropped channel why) = refl
heard_event bytes (events.Span span) = refl
heard_event bytes (events.Flow at word) = refl
heard_event bytes events.Ended = refl

heard_more : (given : List Event) (bytes : List ℕ) (event : RxEvent) → heard_in (given ++ event_of bytes event) ≡ heard_in given ++ heard_now event
heard_more given bytes event = flat_map-append heard_of given (event_of bytes event) ∙ ap (λ rows. heard_in given ++ rows) (heard_event bytes event)

-- the far end of a session has these entries and has taken what the events say
abbrev Follows : List ℕ → Session → List Event → Type 0
Follows entries s given = HasHeard s.far entries (heard_in given)

follows_same : (entries : List ℕ) (s t : Session) (given : List Event) → t.far ≡ s.far → Follows entries s given → Follows entries t given
follows_same entries s t given same follows = subst (λ (far : CalendarIn). HasHeard far entries (heard_in given)) (sym same) follows

one_call : (entries : List ℕ) (call : Call) (s t : Session) (given : List Event) → Leads call s t → Follows entries s given → Follows entries t (given_after call t given)
one_call entries (Feed lane piece (Ok n)) s t given leads follows = follows_same entries s t given leads.3.far follows
one_call entries (Feed lane piece (Err why)) s t given leads follows = follows_same entries s t given (ap (λ (v : Session). v.far) leads.1) follows
one_call entries (Finish lane (Ok u)) s t given leads follows = follows_same entries s t given leads.2.far follows
one_call entries (Finish lane (Err why)) s t given leads follows = follows_same entries s t given (ap (λ (v : Session). v.far) leads.1) follows
one_call entries (Next None) s t given leads follows = subst (HasHeard t.far entries) (append-nil (heard_in given)) (leads.2 entries (heard_in given) follows)
one_call entries (Next (Some event)) s t given leads follows =
    subst (HasHeard t.far entries) (sym (heard_more given t.receiver.reassembly.packet event)) (leads.2 entries (heard_in given) follows)
one_call entries Look s t given leads follows = follows_same entries s t given (ap (λ (v : Session). v.far) leads) follows

all_calls : (entries : List ℕ) (calls : List Call) (s t : Session) (fed fed' : List Fed) (given given' : List Event) →
    AreCalls s fed given calls t fed' given' → Follows entries s given → Follows entries t given'
all_calls entries [] s t fed fed' given given' are follows =
    subst (λ (v : Session). Follows entries v given') are.0 (subst (λ (es : List Event). Follows entries s es) are.2 follows)
all_calls entries (call ∷ calls) s t fed fed' given given' are follows =
    all_calls entries calls are.0 t (fed_after call fed) fed' (given_after call are.0 given) given' are.2 (one_call entries call s are.0 given are.1 follows)

-- ---- the listed channels

same_channels : (call : Call) (s t : Session) → Leads call s t → t.channels ≡ s.channels
same_channels (Feed lane piece (Ok n)) s t leads = leads.3.channels
same_channels (Feed lane piece (Err why)) s t leads = ap (λ (v : Session). v.channels) leads.1
same_channels (Finish lane (Ok u)) s t leads = leads.2.channels
same_channels (Finish lane (Err why)) s t leads = ap (λ (v : Session). v.channels) leads.1
same_channels (Next answer) s t leads = leads.3
same_channels Look s t leads = ap (λ (v : Session). v.channels) leads

channels_stay : (calls : List Call) (s t : Session) (fed fed' : List Fed) (given given' : List Event) → AreCalls s fed given calls t fed' given' → t.channels ≡ s.channels
channels_stay [] s t fed fed' given given' are = ap (λ (v : Session). v.channels) (sym are.0)
channels_stay (call ∷ calls) s t fed fed' given given' are =
    channels_stay calls are.0 t (fed_after call fed) fed' (given_after call are.0 given) given' are.2 ∙ same_channels call s are.0 are.1

-- ---- the answer of a channel

answered : (entries : List ℕ) (s t : Session) (given : List Event) (channel : ℕ) (answer : Option Bool) → t.channels ≡ s.channels → Follows entries t given → IsChannelState t channel answer → IsHeard entries s given channel answer
answered entries s t given channel (Some on) same follows state = record {
  listed = sym state.0 ∙ ap (λ (v : Vec ℕ Global). is_listed v.items channel) same;
  on = state.1 entries (heard_in given) follows (all_at_once given);
}
answered entries s t given channel None same follows state = record {
  listed = sym state ∙ ap (λ (v : Vec ℕ Global). is_listed v.items channel) same;
  on = tt;
}

pub channels_are_heard : ChannelsAreHeard
channels_are_heard entries s t calls fed fed' given channel answer new are state =
    answered entries s t given channel answer (channels_stay calls s t fed fed' [] given are) (all_calls entries calls s t fed fed' [] given are new) state

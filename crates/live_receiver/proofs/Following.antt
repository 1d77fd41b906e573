-- What a receiver is, by what was fed and given, after any calls.
use Rattle.std.proofs.Common.{ℕ, ◌≡◌, refl, sym, ap, ◌∙◌, subst, true, false, true≢false, Result, List, [], ◌∷◌, ◌++◌, Some, None, Ok, Err}
use Rattle.std.proofs.lemmas.List.{append-nil}
use Rattle.lk_base.specs.Link.{Settings}
use Rattle.receive_model.specs.Events.{Event, Setting}
use Rattle.event_model.specs.Fed.{Fed}
use Rattle.rx_front.specs.Calls.{nothing_fed}
use Rattle.rx_end.specs.declared.event.RxEvent.{RxEvent}
use Rattle.rx_end.specs.declared.event.RxEvent.TheVariants as events
use Rattle.rx_end.specs.Standing.{GivesEvent, Stands, event_of}
use Rattle.rx_end.specs.States.{State}
use Rattle.rx_end.proofs.Pieces.{given_come_first}
use Rattle.live_receiver.specs.Calls.{IsRead, KeepsGiven}
use Rattle.live_receiver.specs.CallsLaw.{AreCalls, AreOthers, Call, Feed, Finish, Next, Look, CallsGiveFirst, IsReadOf, Leads, ReadsNoPacket, ReadsThePacket, fed_after, given_after}
use Rattle.c_parts.specs.declared.misuse.Misuse.{Misuse}
use Rattle.c_parts.specs.declared.misuse.Misuse.TheVariants as misuses
use Rattle.live_receiver.specs.declared.session.Session.{Session}

gave : (event : RxEvent) (w : State) (s : Settings) (setting : Setting) (fed : List Fed) (given : List Event) → GivesEvent event w s setting fed given →
    Stands w s setting fed (given ++ event_of w.reassembly.packet event)
gave (events.Packet channel length first last) w s setting fed given g = g.1
gave (events.Dropped channel why) w s setting fed given g = g.1
gave (events.Span span) w s setting fed given g = g.1
gave (events.Flow at word) w s setting fed given g = g.1
gave events.Ended w s setting fed given g = subst (λ (es : List Event). Stands w s setting fed es) (sym (append-nil given)) g.3

one_call : (call : Call) (v w : Session) (s : Settings) (setting : Setting) (fed : List Fed) (given : List Event) → Leads call v w → Stands v.receiver s setting fed given →
    Stands w.receiver s setting (fed_after call fed) (given_after call w given)
one_call (Feed lane piece (Ok n)) v w s setting fed given leads stands = leads.2 s setting fed given stands
one_call (Feed lane piece (Err why)) v w s setting fed given leads stands = subst (λ (t : Session). Stands t.receiver s setting fed given) (sym leads.1) stands
one_call (Finish lane (Ok u)) v w s setting fed given leads stands = leads.1 s setting fed given stands
one_call (Finish lane (Err why)) v w s setting fed given leads stands = subst (λ (t : Session). Stands t.receiver s setting fed given) (sym leads.1) stands
one_call (Next None) v w s setting fed given leads stands = (leads.0.gives s setting fed given stands).1
one_call (Next (Some event)) v w s setting fed given leads stands = gave event w.receiver s setting fed given (leads.0.gives s setting fed given stands)
one_call Look v w s setting fed given leads stands = subst (λ (t : Session). Stands t.receiver s setting fed given) (sym leads) stands

all_calls : (calls : List Call) (v w : Session) (s : Settings) (setting : Setting) (fed fed' : List Fed) (given given' : List Event) →
    AreCalls v fed given calls w fed' given' → Stands v.receiver s setting fed given → Stands w.receiver s setting fed' given'
all_calls [] v w s setting fed fed' given given' are stands =
    subst (λ (t : Session). Stands t.receiver s setting fed' given') are.0
    (subst (λ (f : List Fed). Stands v.receiver s setting f given') are.1 (subst (λ (es : List Event). Stands v.receiver s setting fed es) are.2 stands))
all_calls (call ∷ calls) v w s setting fed fed' given given' are stands =
    all_calls calls are.0 w s setting (fed_after call fed) fed' (given_after call are.0 given) given' are.2 (one_call call v are.0 s setting fed given are.1 stands)

pub calls_give_first : CallsGiveFirst
calls_give_first plan setting s t calls fed given all lanes is unfed are begins events =
    given_come_first t.receiver plan.link setting fed given lanes all
    (all_calls calls s t plan.link setting (nothing_fed plan.link.lanes) fed [] given are (unfed setting is)) begins events

-- ---- the packet that was given last

unchanged : (s t : Session) → t ≡ s → KeepsGiven s t
unchanged s t same = record {
  bytes = ap (λ (v : Session). v.receiver.reassembly) same;
  lends = ap (λ (v : Session). v.lends) same;
  far = ap (λ (v : Session). v.far) same;
  channels = ap (λ (v : Session). v.channels) same;
}

kept_on : (s u t : Session) → KeepsGiven s u → KeepsGiven u t → KeepsGiven s t
kept_on s u t first second = record { bytes = second.bytes ∙ first.bytes; lends = second.lends ∙ first.lends; far = second.far ∙ first.far; channels = second.channels ∙ first.channels }

packet_stays : (calls : List Call) (s t : Session) → AreOthers s calls t → KeepsGiven s t
packet_stays [] s t others = unchanged s t (sym others)
packet_stays (Feed lane piece (Ok n) ∷ calls) s t others = kept_on s others.0 t others.1.3 (packet_stays calls others.0 t others.2)
packet_stays (Feed lane piece (Err why) ∷ calls) s t others = kept_on s others.0 t (unchanged s others.0 others.1.1) (packet_stays calls others.0 t others.2)
packet_stays (Finish lane (Ok v) ∷ calls) s t others = kept_on s others.0 t others.1.2 (packet_stays calls others.0 t others.2)
packet_stays (Finish lane (Err why) ∷ calls) s t others = kept_on s others.0 t (unchanged s others.0 others.1.1) (packet_stays calls others.0 t others.2)
packet_stays (Next answer ∷ calls) s t others = absurd others
packet_stays (Look ∷ calls) s t others = kept_on s others.0 t (unchanged s others.0 others.1) (packet_stays calls others.0 t others.2)

read_of : (t u : Session) (offset : ℕ) (old new : List ℕ) (answer : Result ℕ Misuse) → t.lends ≡ true → KeepsGiven t u → IsRead u offset old new answer → IsReadOf t.receiver.reassembly.packet offset old new answer
read_of t u offset old new (Err why) lends keeps read = absurd (true≢false (sym lends ∙ sym keeps.lends ∙ read.0))
read_of t u offset old new (Ok n) lends keeps read = subst (λ r. IsReadOf r.packet offset old new (Ok n)) keeps.bytes (n, refl, read.1, read.2)

pub reads_the_packet : ReadsThePacket
reads_the_packet s t u channel count first last calls offset old new answer gives others read =
    read_of t u offset old new answer gives.1 (packet_stays calls t u others) read

none_read : (t : Session) (offset : ℕ) (old new : List ℕ) (answer : Result ℕ Misuse) → t.lends ≡ false → IsRead t offset old new answer → (answer ≡ Err misuses.NoPacket) × (new ≡ old)
none_read t offset old new (Ok n) lends read = absurd (true≢false (sym read.0 ∙ lends))
none_read t offset old new (Err why) lends read = (ap Err read.1, read.2)

pub reads_no_packet : ReadsNoPacket
reads_no_packet bytes s t calls offset old new answer is others read =
    none_read t offset old new answer ((packet_stays calls s t others).lends ∙ is.2.unlent) read

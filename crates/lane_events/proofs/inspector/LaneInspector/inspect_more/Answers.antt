-- The bytes up to a word show its events, or show none.
use Rattle.std.proofs.Common.{[], sym, ap, subst, take, List}
use Rattle.std.proofs.lemmas.List.{append-nil}
use Rattle.lk_base.specs.Checksum.{bits_of_bytes}
use Rattle.lane_events.specs.declared.types.LaneEvent.{LaneEvent}
use Rattle.lane_events.specs.Inspection.{GoesOn, events_in, shown_in}
use Rattle.lane_events.proofs.Appending.{finds_of}
use Rattle.lane_events.proofs.Until.{none_if_not}
use Rattle.lane_events.proofs.inspector.LaneInspector.inspect_more.Goals as goal

pub returns-in_default-clause-finds : goal.returns-in_default-clause-finds
returns-in_default-clause-finds c =
    let (count, shown) = c.take_until_events-count.result in
    let old = c.args.found.now.items in
    let bits = bits_of_bytes (take count c.args.bytes.now) in
    finds_of c.args.self.now c.take_until_events-count.new.self bits [] old old
    (subst (λ (es : List LaneEvent). GoesOn c.args.self.now c.take_until_events-count.new.self bits es) (none_if_not shown c.in_default.not-Some) c.take_until_events-count.ensures.goes_on)
    (sym (append-nil old))

pub returns-clause-finds : goal.returns-clause-finds
returns-clause-finds c =
    let (count, shown) = c.take_until_events-count.result in
    let bits = bits_of_bytes (take count c.args.bytes.now) in
    let events = c.in-Some.events in
    finds_of c.args.self.now c.take_until_events-count.new.self bits (events_in events) c.args.found.now.items c.append_to.new.found.items
    (subst (λ (es : List LaneEvent). GoesOn c.args.self.now c.take_until_events-count.new.self bits es) (ap shown_in c.in-Some.is) c.take_until_events-count.ensures.goes_on)
    c.in_ok-append_to.ensures.appended

-- The first bytes show nothing, and then the bytes after them show events, or none.
use Rattle.std.proofs.Common.{◌+◌, ◌-◌, ◌*◌, ◌≤◌, ◌∙◌, sym, subst, length, arith, Bool}
use Rattle.lk_base.specs.Checksum.{bits_of}
use Rattle.lane_events.specs.Inspection.{GoesOn, events_if}
use Rattle.lane_events.proofs.Until.{goes_to_end, pieces_on, shows_none, where_none}
use Rattle.lane_events.proofs.inspector.LaneInspector.take_until_events.Goals as goal

pub returns-then-shows-clause-goes_on : goal.returns-then-shows-clause-goes_on
returns-then-shows-clause-goes_on c =
    let bytes = c.args.bytes.now in
    let (at, shown) = c.take_pieces-at.result in
    let there = c.take_pieces-at.ensures.within in
    let next = c.next_events-shows in
    goes_to_end c.args.self.now c.take_pieces-at.new.self next.new.self bytes at (length bytes - at) c.number_at.result _ c.number_at.ensures.bits (omega (arith, there))
    (pieces_on c.args.self.now c.take_pieces-at.new.self bytes at shown (sym c.is_some.ensures ∙ c.if-is_some.false) c.take_pieces-at.ensures.goes_on)
    (subst (λ (shows : Bool). GoesOn c.take_pieces-at.new.self next.new.self (bits_of (8 * (length bytes - at)) c.number_at.result) (events_if shows next.new.events)) c.if-shows.true next.ensures.goes_on)

pub returns-then-shows-clause-soon : goal.returns-then-shows-clause-soon
returns-then-shows-clause-soon c n le =
    let bytes = c.args.bytes.now in
    let (at, shown) = c.take_pieces-at.result in
    let none = sym c.is_some.ensures ∙ c.if-is_some.false in
    let rest = where_none (length bytes ≤ at + 7) shown none c.take_pieces-at.ensures.rest in
    shows_none c.args.self.now c.take_pieces-at.new.self bytes n at (omega (arith, le, rest)) (pieces_on c.args.self.now c.take_pieces-at.new.self bytes at shown none c.take_pieces-at.ensures.goes_on)

pub returns-clause-goes_on : goal.returns-clause-goes_on
returns-clause-goes_on c =
    let bytes = c.args.bytes.now in
    let (at, shown) = c.take_pieces-at.result in
    let there = c.take_pieces-at.ensures.within in
    let next = c.next_events-shows in
    goes_to_end c.args.self.now c.take_pieces-at.new.self next.new.self bytes at (length bytes - at) c.number_at.result _ c.number_at.ensures.bits (omega (arith, there))
    (pieces_on c.args.self.now c.take_pieces-at.new.self bytes at shown (sym c.is_some.ensures ∙ c.if-is_some.false) c.take_pieces-at.ensures.goes_on)
    (subst (λ (shows : Bool). GoesOn c.take_pieces-at.new.self next.new.self (bits_of (8 * (length bytes - at)) c.number_at.result) (events_if shows next.new.events)) c.if-shows.false next.ensures.goes_on)

pub returns-clause-soon : goal.returns-clause-soon
returns-clause-soon c n le =
    let bytes = c.args.bytes.now in
    let (at, shown) = c.take_pieces-at.result in
    let none = sym c.is_some.ensures ∙ c.if-is_some.false in
    let rest = where_none (length bytes ≤ at + 7) shown none c.take_pieces-at.ensures.rest in
    shows_none c.args.self.now c.take_pieces-at.new.self bytes n at (omega (arith, le, rest)) (pieces_on c.args.self.now c.take_pieces-at.new.self bytes at shown none c.take_pieces-at.ensures.goes_on)

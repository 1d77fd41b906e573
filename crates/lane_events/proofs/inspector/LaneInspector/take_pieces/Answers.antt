-- Eight words or a piece at a time.
use Rattle.std.proofs.Common.{◌*◌, [], sym, ap, subst, take, arith, Bool}
use Rattle.lk_base.specs.Checksum.{bits_of, bits_of_bytes}
use Rattle.lane_events.specs.Inspection.{GoesOn, InspectorView, events_if}
use Rattle.lane_events.proofs.Until.{goes_bytes, goes_more, shows_none}
use Rattle.lane_events.proofs.inspector.LaneInspector.take_pieces.Goals as goal

pub returns-then-shows-clause-goes_on : goal.returns-then-shows-clause-goes_on
returns-then-shows-clause-goes_on c =
    let u = c.passes_words.new.self in
    let next = c.next_events-shows in
    let on = subst (λ (x : InspectorView). GoesOn c.args.self.now x (bits_of_bytes (take c.loop-at.at c.args.bytes.now)) []) (sym (c.passes_words.ensures.same c.if-passes_words.false)) c.loop-at.invariant.on in
    goes_more c.args.self.now u next.new.self c.args.bytes.now c.loop-at.at c.piece-count.result c.number_at.result _ c.number_at.ensures.bits on
    (subst (λ (shows : Bool). GoesOn u next.new.self (bits_of (8 * c.piece-count.result) c.number_at.result) (events_if shows next.new.events)) c.if-shows.true next.ensures.goes_on)

pub returns-then-shows-clause-soon : goal.returns-then-shows-clause-soon
returns-then-shows-clause-soon c n le =
    let most = c.piece-count.ensures.most in
    shows_none c.args.self.now c.loop-at.self c.args.bytes.now n c.loop-at.at (omega (arith, le, most)) c.loop-at.invariant.on

pub loop-at-preserved : goal.loop-at-preserved
loop-at-preserved c =
    let u = c.passes_words.new.self in
    let next = c.next_events-shows in
    let more = c.loop-at-test.true in
    let most = c.piece-count.ensures.most in
    let before = c.loop-at.invariant.taken in
    let taken = next.ensures.taken in
    let same = c.passes_words.ensures.same c.if-passes_words.false in
    let stays = ap (λ (x : InspectorView). x.taken) same in
    let on = subst (λ (x : InspectorView). GoesOn c.args.self.now x (bits_of_bytes (take c.loop-at.at c.args.bytes.now)) []) (sym same) c.loop-at.invariant.on in
    record {
      there = omega (arith, more, most);
      taken = omega (arith, before, taken, stays);
      on = goes_more c.args.self.now u next.new.self c.args.bytes.now c.loop-at.at c.piece-count.result c.number_at.result _ c.number_at.ensures.bits on
          (subst (λ (shows : Bool). GoesOn u next.new.self (bits_of (8 * c.piece-count.result) c.number_at.result) (events_if shows next.new.events)) c.if-shows.false next.ensures.goes_on);
    }

pub loop-at-preserved-then-passes_words : goal.loop-at-preserved-then-passes_words
loop-at-preserved-then-passes_words c =
    let before = c.loop-at.invariant.taken in
    let taken = c.passes_words.ensures.taken c.if-passes_words.true in
    record {
      there = c.passes_words.ensures.there c.if-passes_words.true;
      taken = omega (arith, before, taken);
      on = goes_bytes c.args.self.now c.loop-at.self c.passes_words.new.self c.args.bytes.now c.loop-at.at 67 _ c.loop-at.invariant.on (c.passes_words.ensures.goes_on c.if-passes_words.true);
    }

pub returns-clause-soon : goal.returns-clause-soon
returns-clause-soon c n le = shows_none c.args.self.now c.loop-at.self c.args.bytes.now n c.loop-at.at (omega (arith, le)) c.loop-at.invariant.on

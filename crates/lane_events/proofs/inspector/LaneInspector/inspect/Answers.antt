-- Up to one word after another.
use Rattle.std.proofs.Common.{ℕ, List, ap, subst, length, take, arith}
use Rattle.std.proofs.lemmas.List.{length-drop}
use Rattle.lk_base.specs.Checksum.{bits_of_bytes}
use Rattle.lane_events.specs.Inspection.{Finds}
use Rattle.lane_events.proofs.Appending.{found_all, found_more}
use Rattle.lane_events.proofs.inspector.LaneInspector.inspect.Goals as goal

pub loop-at-preserved : goal.loop-at-preserved
loop-at-preserved c =
    let bytes = c.args.bytes.now in
    let at = c.loop-at.at in
    let count = c.in_ok-at.field-0 in
    let within = c.in_ok-at.ensures.within in
    let left = ap length c.tail.ensures in
    let rest = length-drop at bytes in
    let there = c.loop-at.invariant.there in
    let before = c.loop-at.invariant.taken in
    let taken = c.in_ok-at.ensures.taken in
    let few = c.loop-at.invariant.few in
    let fewer = c.in_ok-at.ensures.few in
    record {
      there = omega (arith, within.1, left, rest, there);
      taken = omega (arith, before, taken);
      finds = found_more c.args.self.now c.loop-at.self c.inspect_more.new.self bytes at count c.args.found.now.items c.loop-at.found.items c.inspect_more.new.found.items c.loop-at.invariant.finds
          (subst (λ (bs : List ℕ). Finds c.loop-at.self c.inspect_more.new.self (bits_of_bytes (take count bs)) c.loop-at.found.items c.inspect_more.new.found.items) c.tail.ensures c.in_ok-at.ensures.finds);
      few = omega (arith, few, fewer, within.0);
    }

pub returns-clause-finds : goal.returns-clause-finds
returns-clause-finds c =
    let over = c.loop-at-test.false in
    found_all c.args.self.now c.loop-at.self c.args.bytes.now c.loop-at.at c.args.found.now.items c.loop-at.found.items (omega (arith, over)) c.loop-at.invariant.finds

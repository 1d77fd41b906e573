-- Some of the bytes that bits complete are taken.
use Rattle.std.proofs.Common.{Ok, arith, inr, refl}
use Rattle.live_receiver.specs.Calls.{IsFeed}
use Rattle.c_bits.proofs.Feeding.{are_fed}
use Rattle.c_receiver.proofs.calls.feed_completed.Goals as goal

pub returns-in-Ok : goal.returns-in-Ok
returns-in-Ok c =
    let few = c.if-count-gt-MOST_BITS.false in
    let old = c.args.receiver.now in
    let fed = are_fed (λ bytes answer. IsFeed old.session c.feed.new.self c.args.lane bytes answer) old.parts c.settle.new.self c.args.lane c.args.bits c.args.count c.cut-cut.result.bytes
    c.bytes.result.now c.cut-cut.result.part c.in-Ok.bytes c.settle.result c.cut-cut.ensures c.bytes.ensures.bytes c.in-Ok.ensures c.settle.ensures.within c.settle.ensures.taken c.settle.ensures.left in
    inr (omega (arith, few), (Ok c.settle.result, fed, (refl, refl)))

-- One more reason is told.
use Rattle.std.proofs.Common.{sym, append-nil}
use Rattle.link_reports.proofs.Telling.{one_more}
use Rattle.link_reports.proofs.received.put_drops.Goals as goal

pub loop-why-init : goal.loop-why-init
loop-why-init c = sym (append-nil c.args.text.now.items)

pub loop-why-preserved : goal.loop-why-preserved
loop-why-preserved c =
    one_more c.args.counts.now c.args.reasons.now c.loop-why.why-index _ _ c.args.text.now.items c.loop-why.text.items c.put_drop.new.text.items c.loop-why-test.true c.drop_place.ensures.place c.loop-why.invariant (c.in_ok-put_drop.ensures {u = tt})

-- Each event sends one piece at most.
use Rattle.std.proofs.Common.{arith}
use Rattle.retransmit.proofs.Runs.{event_sends}
use Rattle.word_calls.proofs.resends.do_all.Goals as goal

pub loop-event-preserved : goal.loop-event-preserved
loop-event-preserved c =
    let more = event_sends c.loop-event.resend c.event.new.self _ c.event.result c.event.ensures in
    let before = c.loop-event.invariant in
    omega (arith, more, before)

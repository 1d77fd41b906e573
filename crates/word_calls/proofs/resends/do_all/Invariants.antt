use Rattle.std.proofs.Common.{◌≤◌, ◌+◌}
use Rattle.word_calls.proofs.resends.do_all.Given as goal

-- each event sends one piece at most
abbrev pub invariant-loop-event : goal.invariant-loop-event
invariant-loop-event l = l.resend.state.sends ≤ l.fn.resend.state.sends + l.event-index

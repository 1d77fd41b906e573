use Rattle.std.proofs.Common.{◌≡◌, ◌≤◌, ◌+◌, replicate}
use Rattle.resend_commands.specs.Carried.{events_done}
use Rattle.resend_commands.proofs.carrying.do_events.Given as goal

-- the event was done this many times
abbrev pub invariant-loop-turn : goal.invariant-loop-turn
invariant-loop-turn l = record {
  done : l.resend ≡ events_done l.fn.resend (replicate l._turn l.run.event);
  sends : l.resend.state.sends ≤ l.fn.resend.state.sends + l._turn;
}

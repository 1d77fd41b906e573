use Rattle.std.proofs.Common.{take}
use Rattle.duplex_model.specs.DuplexRun.{Settings, Ends}
use Rattle.duplex.specs.Duplexes.{Waits, KeepsInboxes}
use Rattle.plan_inputs.specs.Inputs.{on_channel}
use Rattle.plan_inputs.specs.Values.{packets_of}
use Rattle.duplex_commands.specs.Loaded.{all_added}
use Rattle.duplex_commands.specs.Run.{AreOfBytes}
use Rattle.duplex_commands.proofs.lending.lend.Given as goal

-- the packets before this number are lent
abbrev pub invariant-loop-number : goal.invariant-loop-number
invariant-loop-number l = record {
  waits : (settings : Settings) (ends : Ends) → Waits l.fn.duplex settings ends → Waits l.duplex settings (all_added ends l.end (take l.number (on_channel l.capture.channel (packets_of l.capture))));
  inboxes : KeepsInboxes l.fn.duplex l.duplex;
  bytes : AreOfBytes (take l.number (on_channel l.capture.channel (packets_of l.capture)));
}

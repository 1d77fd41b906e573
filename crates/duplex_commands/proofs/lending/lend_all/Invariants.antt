use Rattle.std.proofs.Common.{take}
use Rattle.duplex_model.specs.DuplexRun.{Settings, Ends}
use Rattle.duplex.specs.Duplexes.{Waits, KeepsInboxes}
use Rattle.plan_inputs.specs.Values.{packet_values}
use Rattle.duplex_commands.specs.Loaded.{all_added}
use Rattle.duplex_commands.specs.Run.{AreOfBytes}
use Rattle.duplex_commands.proofs.lending.lend_all.Given as goal

-- the packets of the captures so far are lent
abbrev pub invariant-loop-capture : goal.invariant-loop-capture
invariant-loop-capture l = record {
  waits : (settings : Settings) (ends : Ends) → Waits l.fn.duplex settings ends → Waits l.duplex settings (all_added ends l.end (packet_values (take l.capture-index l.captures)));
  inboxes : KeepsInboxes l.fn.duplex l.duplex;
  bytes : AreOfBytes (packet_values (take l.capture-index l.captures));
}

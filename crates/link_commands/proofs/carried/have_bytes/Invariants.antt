use Rattle.std.proofs.Common.{All, take}
use Rattle.plan_inputs.specs.Values.{packet_values}
use Rattle.link_commands.proofs.OfBytes.{IsOfBytes}
use Rattle.link_commands.proofs.carried.have_bytes.Given as goal

-- the packets of the captures so far are of bytes
abbrev pub invariant-loop-capture : goal.invariant-loop-capture
invariant-loop-capture l = All IsOfBytes (packet_values (take l.capture-index l.captures))

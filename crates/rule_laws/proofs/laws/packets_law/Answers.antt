-- Proved above.
use Rattle.rule_laws.proofs.PacketsTold.{the_law_on_packets, the_law_on_delivered, the_law_on_drops}
use Rattle.rule_laws.proofs.laws.packets_law.Goals as goal

pub returns-clause-packets : goal.returns-clause-packets
returns-clause-packets c = the_law_on_packets c.pieces_are_shown.ensures

pub returns-clause-delivered : goal.returns-clause-delivered
returns-clause-delivered c = the_law_on_delivered c.pieces_are_shown.ensures

pub returns-clause-drops : goal.returns-clause-drops
returns-clause-drops c = the_law_on_drops c.pieces_are_shown.ensures

-- Proved above.
use Rattle.link_commands.proofs.AllSent.{places_change_no_packet}
use Rattle.link_commands.proofs.laws.places_change_no_packet.Goals as goal

pub returns : goal.returns
returns c = places_change_no_packet

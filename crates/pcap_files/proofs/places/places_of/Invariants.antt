use Rattle.std.proofs.Common.{length}
use Rattle.pcap_files.proofs.Placed.{PlacedSoFar}
use Rattle.pcap_files.proofs.places.places_of.Given as goal

-- the packets before the offset are placed
abbrev pub invariant-loop-places : goal.invariant-loop-places
invariant-loop-places l = PlacedSoFar l.fn.bytes l.fn.most l.places.items l.offset l.reader

abbrev pub decreases-loop-places : goal.decreases-loop-places
decreases-loop-places l = length l.reader.packets

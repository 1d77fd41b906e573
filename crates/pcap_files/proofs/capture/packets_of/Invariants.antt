use Rattle.std.proofs.Common.{◌≡◌, ◌++◌, map, length}
use Rattle.pcap_files.specs.Capture.{reading_of}
use Rattle.pcap_files.proofs.capture.packets_of.Given as goal

-- the packets so far and what is left are the whole
abbrev pub invariant-loop-packets : goal.invariant-loop-packets
invariant-loop-packets l = record {
  packets : map (λ p. p.now) l.packets.items ++ l.reader.packets ≡ (reading_of l.fn.bytes l.fn.most).packets;
  refusal : l.reader.refusal ≡ (reading_of l.fn.bytes l.fn.most).refusal;
}

abbrev pub decreases-loop-packets : goal.decreases-loop-packets
decreases-loop-packets l = length l.reader.packets

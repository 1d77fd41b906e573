-- The words so far have come.
use Rattle.reassembly.proofs.Adding.{Adding}
use Rattle.reassembly.proofs.packets.OpenPackets.add_each.Given as goal

abbrev pub invariant-loop-word : goal.invariant-loop-word
invariant-loop-word l = Adding l.fn.self l.self l.place l.words l.word-index l.all

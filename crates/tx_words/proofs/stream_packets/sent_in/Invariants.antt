use Rattle.std.proofs.Common.{take, count_by}
use Rattle.tx_words.specs.Sent.{starts}
use Rattle.tx_words.specs.SentLists.{Lists}
use Rattle.tx_words.proofs.stream_packets.sent_in.Given as goal

-- the packets that the words so far start are listed, and there is no room for more
abbrev pub invariant-loop-slot : goal.invariant-loop-slot
invariant-loop-slot l = Lists l.list (take l.slot l.words) (count_by starts (take l.slot l.words))

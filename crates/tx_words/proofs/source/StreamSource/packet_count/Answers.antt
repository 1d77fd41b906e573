use Rattle.std.proofs.Common.{subst}
use Rattle.tx_words.specs.SentLaw.{EachHasBytes}
use Rattle.tx_words.proofs.Counting.{some_bytes}
use Rattle.tx_words.proofs.source.StreamSource.packet_count.Goals as goal

pub returns-clause-bytes : goal.returns-clause-bytes
returns-clause-bytes c = subst EachHasBytes c.self.view_is (some_bytes c.self.inside.packets.now c.self.invariant.0.sized)

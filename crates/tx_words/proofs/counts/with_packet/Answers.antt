use Rattle.std.proofs.Common.{rules}
use Rattle.tx_words.proofs.counts.with_packet.Goals as goal

pub returns-then-chunks-tally : goal.returns-then-chunks-tally
returns-then-chunks-tally c = search rules

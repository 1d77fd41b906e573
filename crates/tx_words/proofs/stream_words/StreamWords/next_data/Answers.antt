-- The maker makes the words, of which none is a burst.
use Rattle.tx_words.specs.Making.{last_made}
use Rattle.tx_words.proofs.DataWords.{tallies_data}
use Rattle.tx_words.proofs.stream_words.StreamWords.next_data.Goals as goal

pub next_data-requires : goal.next_data-requires
next_data-requires c = let (source, words, k) = c.requires in (source, words, k.gave)

pub returns-clause-given : goal.returns-clause-given
returns-clause-given c source words k = record {
  gave = c.next_data.ensures.given source words k.gave;
  long = k.long;
  bursts = tallies_data c.args.self.now.tallies.items words (last_made c.next_data.new.self c.next_data.result) k.bursts;
}

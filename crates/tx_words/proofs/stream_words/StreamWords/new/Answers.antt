use Rattle.tx_words.proofs.stream_words.StreamWords.new.Goals as goal

pub returns : goal.returns
returns c = record {
  gave = c.in_ok-maker.ensures;
  long = c.in_ok-tallies.ensures.len;
  bursts = c.in_ok-tallies.ensures.none;
}

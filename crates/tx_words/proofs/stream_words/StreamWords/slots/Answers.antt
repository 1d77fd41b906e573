use Rattle.tx_words.proofs.stream_words.StreamWords.slots.Goals as goal

pub slots-requires : goal.slots-requires
slots-requires c = let (source, words, k) = c.requires in (source, words, k.gave)

pub returns : goal.returns
returns c source words k = c.slots.ensures.count source words k.gave

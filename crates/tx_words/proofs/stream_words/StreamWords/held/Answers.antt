use Rattle.tx_words.proofs.stream_words.StreamWords.held.Goals as goal

pub held-requires : goal.held-requires
held-requires c = let (source, words, k) = c.requires in (source, words, k.gave)

pub returns-clause-held : goal.returns-clause-held
returns-clause-held c source words channel k stream = c.held.ensures.held source words channel k.gave stream

pub returns-clause-free : goal.returns-clause-free
returns-clause-free c source words k stream = c.held.ensures.free source words k.gave stream

pub returns-clause-only : goal.returns-clause-only
returns-clause-only c source words channel k is = c.held.ensures.only source words channel k.gave is

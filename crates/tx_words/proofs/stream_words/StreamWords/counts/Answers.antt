use Rattle.std.proofs.lemmas.Result.{IfOk-weaker}
use Rattle.tx_words.proofs.stream_words.StreamWords.counts.Goals as goal

pub count_bursts_by-requires-clause-len : goal.count_bursts_by-requires-clause-len
count_bursts_by-requires-clause-len c = let (words, k) = c.requires in k.long

pub count_bursts_by-requires-clause-bursts : goal.count_bursts_by-requires-clause-bursts
count_bursts_by-requires-clause-bursts c = let (words, k) = c.requires in (words, k.bursts)

pub returns : goal.returns
returns c = IfOk-weaker c.count_bursts_by.result _ _ (λ counts is words k stream. is words k.bursts stream) c.count_bursts_by.ensures

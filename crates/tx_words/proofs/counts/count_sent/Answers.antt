use Rattle.std.proofs.lemmas.Result.{IfOk-weaker}
use Rattle.tx_words.proofs.counts.count_sent.Goals as goal

pub count_bursts_by-requires-clause-bursts : goal.count_bursts_by-requires-clause-bursts
count_bursts_by-requires-clause-bursts c = (c.args.words.now, c.in_ok-bursts.ensures.bursts)

pub returns : goal.returns
returns c = IfOk-weaker c.count_bursts_by.result _ _ (λ counts is stream. is c.args.words.now c.in_ok-bursts.ensures.bursts stream) c.count_bursts_by.ensures

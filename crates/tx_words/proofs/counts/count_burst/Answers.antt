use Rattle.std.proofs.Common.{sym, ◌∙◌}
use Rattle.tx_words.proofs.Counting.{tallies-burst}
use Rattle.tx_words.proofs.counts.count_burst.Goals as goal

pub returns-in-Some-clause-bursts : goal.returns-in-Some-clause-bursts
returns-in-Some-clause-bursts c before are =
    tallies-burst c.args.tallies.now.items before c.args.word c.in-Some.channel c.index_mut.result.now (sym c.burst_channel.ensures.channel ∙ c.in-Some.is) c.in-Some.ensures.within are c.index_mut.ensures.value

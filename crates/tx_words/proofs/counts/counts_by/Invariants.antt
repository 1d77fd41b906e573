use Rattle.std.proofs.Common.{◌≡◌, map, take, get_or}
use Rattle.tx_words.specs.Tallies.{count_from, first_tally}
use Rattle.tx_words.proofs.counts.counts_by.Given as goal

abbrev pub invariant-loop-channel : goal.invariant-loop-channel
invariant-loop-channel l = l.counts.items ≡ map (λ c. count_from c (get_or l.tallies c (first_tally 0))) (take l.channel-index l.channels)

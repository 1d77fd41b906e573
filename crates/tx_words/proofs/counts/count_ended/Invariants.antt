use Rattle.std.proofs.Common.{◌≡◌, take, vec_len}
use Rattle.tx_words.specs.Tallies.{AreTallies, ended_in, first_tally}
use Rattle.tx_words.proofs.counts.count_ended.Given as goal

abbrev pub invariant-loop-one : goal.invariant-loop-one
invariant-loop-one l = (vec_len l.tallies ≡ 65536) × AreTallies (λ c. first_tally (ended_in c (take l.one-index l.sent))) l.tallies.items

use Rattle.std.proofs.Common.{◌≡◌, take, vec_len}
use Rattle.stream_model.specs.BurstStream.{bursts_in}
use Rattle.tx_words.specs.Tallies.{AreTallies, first_tally}
use Rattle.tx_words.proofs.counts.count_bursts.Given as goal

abbrev pub invariant-loop-slot : goal.invariant-loop-slot
invariant-loop-slot l = (vec_len l.tallies ≡ 65536) × AreTallies (λ c. first_tally (bursts_in (take l.slot l.words) c)) l.tallies.items

use Rattle.std.proofs.Common.{◌≡◌, ℕ, take, vec_len}
use Rattle.tx_words.specs.Tallies.{AreTallies, first_tally, tally_of}
use Rattle.tx_words.proofs.counts.with_packets.Given as goal

-- the packets so far are gone over
abbrev pub invariant-loop-packet : goal.invariant-loop-packet
invariant-loop-packet l = (vec_len l.tallies ≡ 65536)
    × ((n : ℕ → ℕ) → AreTallies (λ c. first_tally (n c)) l.fn.first.items → AreTallies (λ c. tally_of l.most c (n c) (take l.packet-index l.packets)) l.tallies.items)

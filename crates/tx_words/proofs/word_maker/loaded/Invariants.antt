use Rattle.std.proofs.Common.{take, [], false}
use Rattle.burst_scheduler.specs.Gives.{Gives}
use Rattle.tx_words.specs.Driving.{driven}
use Rattle.tx_words.specs.Sources.{packets_by}
use Rattle.tx_words.proofs.Loading.{having_packets}
use Rattle.tx_words.proofs.word_maker.loaded.Given as goal

-- the packets so far are added
abbrev pub invariant-loop-packet : goal.invariant-loop-packet
invariant-loop-packet l = Gives l.scheduler (driven (having_packets l.source (packets_by (take l.packet-index l.packet-items))) [] 0 0 0 false false)

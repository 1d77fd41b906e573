-- What became of the packets of a channel.
use Rattle.std.specs.Prelude.{ℕ, ◌≡◌, ◌-◌, List, map, length, sum_by}
use Rattle.lk_base.specs.declared.word.Word.{Word}
use Rattle.receive_model.specs.Pieces as received
use Rattle.stream_model.specs.BurstStream.{Source, packets_of}
use Rattle.delivery_laws.specs.SentPackets.{sent_packets}
use Rattle.report_model.specs.declared.counts.SentCount.{SentCount}

-- the sent packets of a channel, their bytes, and how many of its packets are not sent
abbrev pub count_of : Source → List Word → ℕ → SentCount
count_of source words channel = record {
  channel = channel;
  packets = length (sent_packets source channel words);
  bytes = sum_by (λ (p : received.Packet). length p.bytes) (sent_packets source channel words);
  left = length (packets_of source channel) - length (sent_packets source channel words);
}

-- these are the counts of the listed channels of a source, in their order, where these are the words of its stream
abbrev pub AreCounts : Source → List Word → List SentCount → Type 0
AreCounts source words counts = counts ≡ map (count_of source words) source.channels

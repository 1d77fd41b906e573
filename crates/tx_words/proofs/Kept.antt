-- The arguments of a stream are a kept source.
use Rattle.std.proofs.Common.{ℕ, List, Contains, arith}
use Rattle.std.proofs.lemmas.List.Elements.{All-map}
use Rattle.std.proofs.lemmas.Bool.Decides.{Decides-eqb}
use Rattle.std.proofs.lemmas.Map.Made.{IsDistinct-from_AllPairs}
use Rattle.stream_model.specs.BurstStream.{IsPacket}
use Rattle.lk_base.specs.Limits.{longest_packet}
use Rattle.tx_words.specs.Sources.{ArgumentsAreSource}
use Rattle.tx_words.specs.declared.packet.Packet.{Packet}

pub is_source : ArgumentsAreSource
is_source shape channels entries packets flow local k = record {
  some_channel = k.some_channel;
  channels_differ = IsDistinct-from_AllPairs Decides-eqb channels k.distinct;
  channels_fit = λ i d h. let low = k.channels_fit i d h in omega arith;
  some_entry = k.some_entry;
  entries_fit = k.entries_fit;
  entries_listed = k.among;
  packets_listed = All-map (λ (p : ℕ × List ℕ). Contains channels p.0) (λ (packet : Packet). (packet.channel, packet.bytes.now)) packets k.listed;
  packets_fit = All-map (λ (p : ℕ × List ℕ). IsPacket longest_packet p.1) (λ (packet : Packet). (packet.channel, packet.bytes.now)) packets k.packets_fit;
  flow_in_order = k.flow_in_order;
  flow_words = k.flow_words;
  local_in_order = k.local_in_order;
}

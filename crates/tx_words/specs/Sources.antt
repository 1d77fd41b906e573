-- What a payload stream is made of, and on which channel it is held.
use Rattle.std.specs.Prelude.{ℕ, ◌≡◌, ◌<◌, ◌≤◌, ◌^◌, List, length, map, take, sum_by, All, Contains}
use Rattle.std.specs.List.{AllPairs}
use Rattle.std.specs.List.Sorted.{IsNonDecreasing}
use Rattle.lk_base.specs.Least.{IsLeast}
use Rattle.lk_base.specs.declared.shape.Shape.{Shape}
use Rattle.lk_base.specs.declared.word.Word.{Word}
use Rattle.lk_base.specs.Limits.{longest_packet}
use Rattle.stream_model.specs.BurstStream.{Source, IsFinish, IsPacket, IsSource}
use Rattle.stream_model.specs.declared.rows.FlowRow.{FlowRow}
use Rattle.stream_model.specs.declared.rows.LocalRow.{LocalRow}
use Rattle.burst_scheduler.specs.Asked.{IsLeft}
use Rattle.tx_words.specs.declared.packet.Packet.{Packet}

-- the packets, each with its channel
abbrev pub packets_by : List Packet → List (ℕ × List ℕ)
packets_by packets = map (λ (packet : Packet). (packet.channel, packet.bytes.now)) packets

-- the source of these arguments
abbrev pub source_by : Shape → List ℕ → List ℕ → List Packet → List FlowRow → List LocalRow → Source
source_by shape channels entries packets flow local = record { shape = shape; channels = channels; entries = entries; packets = packets_by packets; flow = flow; local = local }

-- what they keep, so that there is a stream and it can be made
pub record IsKept (channels entries : List ℕ) (packets : List Packet) (flow : List FlowRow) (local : List LocalRow) : Type 0 where
  -- 1 to 1,024 channels are listed, no number twice
  pub channels_low : 1 ≤ length channels
  pub channels_high : length channels ≤ 1024
  pub distinct : AllPairs (λ (x y : ℕ). x ≡ y → ⊥) channels
  -- the calendar has 1 to 1,024 entries, each a listed channel
  pub entries_low : 1 ≤ length entries
  pub entries_high : length entries ≤ 1024
  pub among : All (Contains channels) entries
  -- each packet is one of a listed channel, of 1 to 262,144 bytes, and together they have fewer than 2^40
  pub listed : All (λ (p : Packet). Contains channels p.channel) packets
  pub sized : All (λ (p : Packet). (1 ≤ length p.bytes.now) × (length p.bytes.now ≤ 262144)) packets
  pub bytes : sum_by (λ (p : ℕ × List ℕ). length p.1) (packets_by packets) < 2 ^ 40
  -- the rows stand in order of slot
  pub flow_in_order : IsNonDecreasing (map (λ (row : FlowRow). row.slot) flow)
  pub flow_low : All (λ (row : FlowRow). row.slot ≤ 16777215) flow
  pub local_in_order : IsNonDecreasing (map (λ (row : LocalRow). row.slot) local)

-- what arguments keep that make a source, whether its stream can be made or not
pub record AreOfSource (channels entries : List ℕ) (packets : List Packet) (flow : List FlowRow) (local : List LocalRow) : Type 0 where
  -- a channel is listed, no number twice, and each has sixteen bits
  pub some_channel : 1 ≤ length channels
  pub distinct : AllPairs (λ (x y : ℕ). x ≡ y → ⊥) channels
  pub channels_fit : All (λ (c : ℕ). c ≤ 65535) channels
  -- the calendar has 1 to 1,024 entries, each a listed channel
  pub some_entry : 1 ≤ length entries
  pub entries_fit : length entries ≤ 1024
  pub among : All (Contains channels) entries
  -- each packet is one of a listed channel, and has 1 to 262,144 bytes
  pub listed : All (λ (p : Packet). Contains channels p.channel) packets
  pub packets_fit : All (λ (p : Packet). IsPacket longest_packet p.bytes.now) packets
  -- the rows stand in order of slot, and a flow word has 64 bits
  pub flow_in_order : IsNonDecreasing (map (λ (row : FlowRow). row.slot) flow)
  pub flow_words : All (λ (row : FlowRow). row.word < 2 ^ 64) flow
  pub local_in_order : IsNonDecreasing (map (λ (row : LocalRow). row.slot) local)

-- Such arguments are a source that keeps all that a source keeps.
abbrev pub ArgumentsAreSource : Type 0
ArgumentsAreSource = (shape : Shape) (channels entries : List ℕ) (packets : List Packet) (flow : List FlowRow) (local : List LocalRow) →
    AreOfSource channels entries packets flow local → IsSource (source_by shape channels entries packets flow local)

-- the stream is held, and this is the least listed channel that has bytes left at its finish
abbrev pub IsHeldOn : Source → List Word → ℕ → Type 0
IsHeldOn source w channel = (z : ℕ) × IsFinish source w z × IsLeast (IsLeft source (take z w)) channel

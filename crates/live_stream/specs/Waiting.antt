-- What a queue of owned packets stands for.
use Rattle.std.specs.Prelude.{◌≡◌, ℕ, ◌+◌, ◌-◌, Bool, nat_lt, ◌<◌, ◌≤◌, List, [], ◌∷◌, ◌++◌, length, map, take, drop, sum_by, count_by, All}
use Rattle.stream_model.specs.BurstStream.{Chunk}
use Rattle.burst_scheduler.specs.Queues.{chunks_in, chunks_behind}
use Rattle.burst_scheduler.specs.declared.sizes.BurstSizes.{BurstSizes}
use Rattle.live_stream.specs.declared.counts.Counts.{Counts}
use Rattle.live_stream.specs.declared.counts.TheConstants.{MOST_BYTES}
use Rattle.live_stream.specs.declared.waiting.Waiting.{Waiting}

-- the packets that it holds, the first of which may be sent in part
abbrev pub packets_in : Waiting → List (List ℕ)
packets_in q = map (λ p. p.items) q.packets.items

-- the chunks that are left of these packets, where this many bytes of the first were taken
abbrev pub chunks_left : BurstSizes → List (List ℕ) → ℕ → List Chunk
chunks_left sizes [] taken = []
chunks_left sizes (packet ∷ packets) taken = chunks_behind sizes packet taken ++ chunks_in sizes packets

-- fewer bytes than the first packet has, and none where there is no packet
abbrev pub IsWithin : List (List ℕ) → ℕ → Type 0
IsWithin [] taken = taken ≡ 0
IsWithin (packet ∷ packets) taken = taken < length packet

-- the bytes of these packets, and of these chunks
abbrev pub bytes_in : List (List ℕ) → ℕ
bytes_in packets = sum_by (λ (p : List ℕ). length p) packets

abbrev pub bytes_of : List Chunk → ℕ
bytes_of chunks = sum_by (λ (k : Chunk). length k.bytes) chunks

-- how many of these chunks are the last of their packet
abbrev pub ends_in : List Chunk → ℕ
ends_in chunks = count_by (λ (k : Chunk). k.is_last) chunks

-- the most bytes that a channel is given
abbrev pub most_bytes : ℕ
most_bytes = MOST_BYTES

-- the counts of a channel that was given these packets, of whose chunks these were sent
pub record AreCounts (counts : Counts) (packets : List (List ℕ)) (sent : List Chunk) : Type 0 where
  pub packets_given : counts.packets_given ≡ length packets
  pub bytes_given : counts.bytes_given ≡ bytes_in packets
  pub packets_sent : counts.packets_sent ≡ ends_in sent
  pub bytes_sent : counts.bytes_sent ≡ bytes_of sent

-- the packets that were given and whose last burst was not sent
abbrev pub left_of : Counts → ℕ
left_of counts = counts.packets_given - counts.packets_sent

-- they do not overflow: each packet has a byte, and so has each chunk
pub record DoFit (counts : Counts) : Type 0 where
  pub packets : counts.packets_given ≤ counts.bytes_given
  pub ends : counts.packets_sent ≤ counts.bytes_sent
  pub few : counts.bytes_given ≤ most_bytes

-- Of the chunks of these packets, all that a channel was given, this many were taken. It holds the packets of those that are left,
-- and no others.
pub record HasLeft (q : Waiting) (sizes : BurstSizes) (packets : List (List ℕ)) (done : ℕ) : Type 0 where
  pub known : done ≤ length (chunks_in sizes packets)
  pub left : drop done (chunks_in sizes packets) ≡ chunks_left sizes (packets_in q) q.taken
  pub within : IsWithin (packets_in q) q.taken
  pub full : All (λ (p : List ℕ). 1 ≤ length p) (packets_in q)
  -- and it counts both, so that the bytes that it holds are those that are left
  pub counts : AreCounts q.counts packets (take done (chunks_in sizes packets))
  pub fit : DoFit q.counts
  pub whole : q.counts.bytes_sent + bytes_in (packets_in q) ≡ q.counts.bytes_given + q.taken

-- the channels of these queues
abbrev pub channels_of : List Waiting → List ℕ
channels_of turns = map (λ (q : Waiting). q.channel) turns

-- a packet of the channel is not wholly sent
abbrev pub has_packets : Waiting → Bool
has_packets q = nat_lt 0 (length q.packets.items)

-- no packet, and nothing counted
pub record IsEmpty (q : Waiting) : Type 0 where
  pub packets : q.packets.items ≡ []
  pub taken : q.taken ≡ 0
  pub given : (q.counts.packets_given ≡ 0) × (q.counts.bytes_given ≡ 0)
  pub sent : (q.counts.packets_sent ≡ 0) × (q.counts.bytes_sent ≡ 0)

-- What is known of the chunks of a packet, and of the bursts that carry them.
use Rattle.std.specs.Prelude.{◌≡◌, ◌↔◌, ℕ, ◌+◌, ◌*◌, ◌/◌, ◌%◌, ◌<◌, ◌≤◌, ◌==◌, min, true, false, List, length, map, take, drop, All, Contains, Some, slice_get}
use Rattle.std.specs.List.{flat_map, range_with_len}
use Rattle.lk_base.specs.Fields.{burst_field, channel_field, multi_field, channel_number}
use Rattle.lk_base.specs.declared.word.Word.{Word}
use Rattle.lk_base.specs.declared.word.Word.TheVariants.{Control}
use Rattle.stream_model.specs.BurstStream.{Source, Chunk, chunks_by, chunk_of_burst, packets_of, parts, data_after, data_words, IsAt, IsBurstStream}

-- Chunks of at most `most` bytes and, where their packet has as many, at least `least` are these bytes, cut.
pub record IsCutOf (most least : ℕ) (packet : List ℕ) (chunks : List Chunk) : Type 0 where
  -- the chunks joined are the packet
  pub whole : flat_map (λ (chunk : Chunk). chunk.bytes) chunks ≡ packet
  -- each has 1 to `most` bytes, and at least the lesser of `least` and those of the packet
  pub some : All (λ (chunk : Chunk). 1 ≤ length chunk.bytes) chunks
  pub fits : All (λ (chunk : Chunk). length chunk.bytes ≤ most) chunks
  pub no_less : All (λ (chunk : Chunk). min least (length packet) ≤ length chunk.bytes) chunks
  -- each but the last fills whole words
  pub words : All (λ (chunk : Chunk). chunk.is_last ≡ false → length chunk.bytes % 8 ≡ 0) chunks
  -- the first alone is the first, and the last alone the last
  pub first : (k : ℕ) (chunk : Chunk) → slice_get chunks k ≡ Some chunk → (chunk.is_first ≡ true) ↔ (k ≡ 0)
  pub last : (k : ℕ) (chunk : Chunk) → slice_get chunks k ≡ Some chunk → (chunk.is_last ≡ true) ↔ (k + 1 ≡ length chunks)
  -- they are as many as without a least size
  pub count : length chunks ≡ parts most (length packet)

-- chunk number k where bursts have no least size: there `most` bytes stand before each
abbrev pub plain_chunk : ℕ → List ℕ → ℕ → Chunk
plain_chunk most packet k = record {
  bytes = take most (drop (k * most) packet);
  is_first = k == 0;
  is_last = k + 1 == parts most (length packet);
}

-- a packet of bytes cut into chunks of `most` bytes and one last chunk of 1 to `most` bytes
abbrev pub plain_chunks : ℕ → List ℕ → List Chunk
plain_chunks most packet = map (plain_chunk most packet) (range_with_len 0 (parts most (length packet)))

-- What the burst of word x at slot s holds: the bytes of the chunk that it carries, of a packet of its channel; these are at least
-- the lesser of BurstMin and the packet's length, and at most BurstMax.
pub record BurstHolds (source : Source) (w : List Word) (s x : ℕ) : Type 0 where
  pub packet : List ℕ
  pub listed : Contains (packets_of source (channel_number true x)) packet
  pub chunk : Chunk
  pub own : chunk_of_burst source (take s w) (Control x) ≡ Some chunk
  pub cut : Contains (chunks_by source.shape packet) chunk
  pub carried : data_after w s ≡ data_words chunk.bytes
  pub least : min source.shape.burst_min (length packet) ≤ length chunk.bytes
  pub most : length chunk.bytes ≤ source.shape.burst_max

-- each burst of these words does
abbrev pub HoldTheLeast : Source → List Word → Type 0
HoldTheLeast source w = (s x : ℕ) → IsAt w s (Control x) → burst_field x ≡ 1 → BurstHolds source w s x

-- each burst of a stream does
abbrev pub BurstsHoldTheLeast : Type 0
BurstsHoldTheLeast = (source : Source) (w : List Word) → IsBurstStream source w → HoldTheLeast source w

-- where each listed channel is below 256, the channel of a control word stands in the bits for it alone
abbrev pub NarrowStandsAlone : Type 0
NarrowStandsAlone = (source : Source) (w : List Word) (t x : ℕ) → All (λ channel. channel < 256) source.channels → IsBurstStream source w → IsAt w t (Control x) →
    (channel_number true x ≡ channel_number false x) × (multi_field x ≡ 0)

-- the remainder by 256 of the number of a burst word's channel stands in the bits for the channel, the quotient in those for
-- multiple use
abbrev pub ChannelIsSplit : Type 0
ChannelIsSplit = (x : ℕ) → (channel_field x ≡ channel_number true x % 256) × (multi_field x ≡ channel_number true x / 256)

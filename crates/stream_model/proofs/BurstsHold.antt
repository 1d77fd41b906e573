-- What each burst of a stream holds, and where its channel stands.
use Rattle.std.proofs.Common.{◌≡◌, inl, inr, ℕ, ◌+◌, ◌*◌, ◌/◌, ◌%◌, ◌<◌, ◌≤◌, min, true, false, List, [], ◌∷◌, ◌++◌, length, take, Some, slice_get, Contains, All, sym, ap, subst, ◌∙◌, arith}
use Rattle.std.specs.List.{flat_map}
use Rattle.std.proofs.lemmas.List.Concat.{flat_map-cons}
use Rattle.lk_base.specs.Fields.{channel_field, multi_field, channel_number}
use Rattle.lk_base.specs.declared.word.Word.{Word}
use Rattle.lk_base.proofs.Lists.{contains_here}
use Rattle.stream_model.specs.BurstStream.{Source, Chunk, IsRightControl, chunks_of_packet, packets_of, bursts_in}
use Rattle.stream_model.specs.Cutting.{IsCutOf, BurstsHoldTheLeast, NarrowStandsAlone, ChannelIsSplit}
use Rattle.stream_model.proofs.Blocks.{bit_cases}
use Rattle.stream_model.proofs.Bursts.{chunk_next}
use Rattle.stream_model.proofs.Carried.{in_append}
use Rattle.stream_model.proofs.Choosing.{contains_at, contains_rest}
use Rattle.stream_model.proofs.Cutting.{cut_of}

-- each element has what all have
pub of_all : {X : Type 0} (P : X → Type 0) (xs : List X) (x : X) → All P xs → Contains xs x → P x
of_all P xs x all (k, below, is) = subst P is (all k x below)

-- a chunk of some packets is one of a packet of them
pub of_packets : (most least : ℕ) (packets : List (List ℕ)) (k : ℕ) (chunk : Chunk) → slice_get (flat_map (chunks_of_packet most least) packets) k ≡ Some chunk
    → (packet : List ℕ) × Contains packets packet × Contains (chunks_of_packet most least packet) chunk
of_packets most least [] k chunk at = cc
of_packets most least (packet ∷ packets) k chunk at =
    let both : slice_get (chunks_of_packet most least packet ++ flat_map (chunks_of_packet most least) packets) k ≡ Some chunk = ap (λ xs. slice_get xs k) (sym (flat_map-cons (chunks_of_packet most least) packet packets)) ∙ at in
    elim (in_append (chunks_of_packet most least packet) (flat_map (chunks_of_packet most least) packets) k chunk both) [
      | inl here ↦ (packet, contains_here packet packets, contains_at (chunks_of_packet most least packet) k chunk here)
      | inr there ↦ (
          let r = of_packets most least packets there.0 chunk there.1 in
          (r.0, contains_rest packet packets r.0 r.1, r.2))
    ]

pub bursts_hold_the_least : BurstsHoldTheLeast
bursts_hold_the_least source w stream s x at burst =
    let carried = stream.chunks s x at burst in
    let next = chunk_next source (take s w) x carried.0 burst carried.1 in
    let from = of_packets source.shape.burst_max source.shape.burst_min (packets_of source (channel_number true x)) (bursts_in (take s w) (channel_number true x)) carried.0 next in
    let is : IsCutOf source.shape.burst_max source.shape.burst_min from.0 (chunks_of_packet source.shape.burst_max source.shape.burst_min from.0) = cut_of source.shape from.0 in
    record {
      packet = from.0;
      listed = from.1;
      chunk = carried.0;
      own = carried.1;
      cut = from.2;
      carried = carried.2;
      least = of_all (λ (chunk : Chunk). min source.shape.burst_min (length from.0) ≤ length chunk.bytes) (chunks_of_packet source.shape.burst_max source.shape.burst_min from.0) carried.0 is.no_less from.2;
      most = of_all (λ (chunk : Chunk). length chunk.bytes ≤ source.shape.burst_max) (chunks_of_packet source.shape.burst_max source.shape.burst_min from.0) carried.0 is.fits from.2;
    }

-- ---- the two fields of a channel's number

none_above : (low high : ℕ) → low + 256 * high < 256 → high ≡ 0
none_above low high h = omega arith

alone : (low high : ℕ) → high ≡ 0 → (low + 256 * high ≡ low) × (high ≡ 0)
alone low high e = (omega arith, e)

pub narrow_right : (source : Source) (before : List Word) (x : ℕ) → All (λ channel. channel < 256) source.channels → IsRightControl source before x → (channel_number true x ≡ channel_number false x) × (multi_field x ≡ 0)
narrow_right source before x narrow right = grind (arith, bit_cases, of_all, none_above, alone)

pub narrow_stands_alone : NarrowStandsAlone
narrow_stands_alone source w t x narrow stream at = narrow_right source (take t w) x narrow (stream.controls t x at)

split_number : (low high : ℕ) → low < 256 → (low ≡ (low + 256 * high) % 256) × (high ≡ (low + 256 * high) / 256)
split_number low high h = (omega arith, omega arith)

pub channel_is_split : ChannelIsSplit
channel_is_split x = split_number (channel_field x) (multi_field x) (omega arith)

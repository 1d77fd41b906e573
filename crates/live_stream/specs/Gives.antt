-- What a scheduler was given and which words it made of it.
use Rattle.std.specs.Prelude.{◌≡◌, ◌⊎◌, ℕ, ◌+◌, ◌-◌, ◌*◌, ◌/◌, ◌^◌, ◌<◌, ◌≤◌, min, Bool, true, false, not, ◌||◌, List, [], ◌∷◌, ◌++◌, length, map, take, sum_by, All, Contains, Option, Some, None, is_some, if◌then◌else◌, nat_lt, nat_eq}
use Rattle.std.specs.List.{AllPairs}
use Rattle.std.specs.Option.{option_or}
use Rattle.lk_base.specs.Words.{payload, block}
use Rattle.lk_base.specs.Fields.{burst_field, channel_number}
use Rattle.lk_base.specs.Least.{IsLeast}
use Rattle.lk_base.specs.declared.word.Word.{Word}
use Rattle.lk_base.specs.declared.word.Word.TheVariants.{Data, Control}
use Rattle.lk_base.specs.declared.shape.Shape.{Shape}
use Rattle.stream_model.specs.BurstStream.{Source, Chunk, IsAt, StandsInBurst, IsRightControl, chunk_of_burst, data_after, data_words, bursts_in, chunks_of, packets_of}
use Rattle.stream_model.specs.Calendar.{Told}
use Rattle.stream_model.specs.declared.rows.FlowRow.{FlowRow}
use Rattle.stream_model.specs.declared.rows.LocalRow.{LocalRow}
use Rattle.calendar.specs.Changes.{told_back}
use Rattle.calendar.specs.Incoming.{Stands}
use Rattle.burst_scheduler.specs.Queues.{sizes_of}
use Rattle.burst_scheduler.specs.Gives.{SpacesFit}
use Rattle.burst_scheduler.specs.Bursts.{HoldsBurst, left_of, planned_after}
use Rattle.live_stream.specs.LiveStream.{LivePacket, Given, as_sent, source_at, IsLiveEnding}
use Rattle.live_stream.specs.Waiting.{channels_of, bytes_in, ends_in, most_bytes, AreCounts}
use Rattle.live_stream.specs.declared.counts.Counts.{Counts}
use Rattle.live_stream.specs.Turns.{AreInTurn, HaveLeft, IsFirstReady}
use Rattle.live_stream.specs.declared.refused.LocalRefused.{LocalRefused}
use Rattle.live_stream.specs.declared.refused.LocalRefused.TheVariants as local_refused
use Rattle.live_stream.specs.declared.refused.Refused.{Refused}
use Rattle.live_stream.specs.declared.refused.Refused.TheVariants as refused
use Rattle.live_stream.specs.declared.scheduler.LiveScheduler.{LiveScheduler}
use Rattle.live_stream.specs.declared.scheduler.TheConstants.{MOST_WORDS}
pub use Rattle.burst_scheduler.specs.Asked.{words_of}

-- ---- what calls give

abbrev pub nothing_given : Shape → ℕ → List ℕ → List ℕ → Given
nothing_given shape max_packet channels entries = record {
  shape = shape;
  max_packet = max_packet;
  channels = channels;
  entries = entries;
  packets = [];
  flow = [];
  local = [];
  packets_closed = false;
  closed = None;
}

-- each counts from the next slot on
abbrev pub packet_added : Given → List Word → ℕ → List ℕ → Given
packet_added g w channel bytes = record g { packets = g.packets ++ record { slot = length w; channel = channel; bytes = bytes } ∷ [] }

abbrev pub flow_added : Given → List Word → ℕ → Given
flow_added g w word = record g { flow = g.flow ++ record { slot = length w; word = word } ∷ [] }

abbrev pub local_added : Given → List Word → ℕ → Bool → Given
local_added g w channel on = record g { local = g.local ++ record { slot = length w; channel = channel; on = on } ∷ [] }

-- the packets are closed
abbrev pub packets_closed_in : Given → Given
packets_closed_in g = record g { packets_closed = true }

-- closed at this slot, if it was not before
abbrev pub closed_at : Given → List Word → Given
closed_at g w = record g { closed = option_or g.closed (Some (length w)) }

-- the most words of a stream
abbrev pub most_words : ℕ
most_words = MOST_WORDS

-- ---- the words that were made, and what is planned after them

-- the source of all that was given
abbrev pub source_of : Given → Source
source_of g = record { shape = g.shape; channels = g.channels; entries = g.entries; packets = map as_sent g.packets; flow = g.flow; local = g.local }

-- the data words of the burst under way that are still to come
abbrev pub to_come : LiveScheduler → List ℕ
to_come s = left_of s.burst

-- the words made, and the rest of the burst that is under way
abbrev pub planned : LiveScheduler → List Word → List Word
planned s w = planned_after s.burst w

-- each of these words is right by what was given up to its slot, and each burst is whole
pub record AreRight (g : Given) (w : List Word) : Type 0 where
  pub sized : (t : ℕ) (word : Word) → IsAt w t word → payload word < 2 ^ 64
  pub data_in_bursts : (t x : ℕ) → IsAt w t (Data x) → StandsInBurst (take t w)
  pub chunks : (s x : ℕ) → IsAt w s (Control x) → burst_field x ≡ 1 → (chunk : Chunk) × (chunk_of_burst (source_at g s) (take s w) (Control x) ≡ Some chunk) × (data_after w s ≡ data_words chunk.bytes)
  pub controls : (t x : ℕ) → IsAt w t (Control x) → IsRightControl (source_at g t) (take t w) x

-- each burst of these words has its chunk among those of the source
abbrev pub HasChunks : Source → List Word → Type 0
HasChunks source w = (t x : ℕ) → IsAt w t (Control x) → burst_field x ≡ 1 → bursts_in (take t w) (channel_number true x) < length (chunks_of source (channel_number true x))

-- a packet is one of a listed channel, and has a byte, and at most so many
pub record IsAccepted (channels : List ℕ) (max_packet : ℕ) (p : LivePacket) : Type 0 where
  pub listed : Contains channels p.channel
  pub some : 1 ≤ length p.bytes
  pub short : length p.bytes ≤ max_packet

-- all that was given so far was given after at most so many words, and each packet is one that is accepted
pub record AreGivenBy (g : Given) (n : ℕ) : Type 0 where
  pub packets : All (λ (p : LivePacket). p.slot ≤ n) g.packets
  pub flow : All (λ (row : FlowRow). row.slot ≤ n) g.flow
  pub local : All (λ (row : LocalRow). row.slot ≤ n) g.local
  pub accepted : All (λ (p : LivePacket). IsAccepted g.channels g.max_packet p) g.packets

-- ---- the end

-- no slot of these words is an ending
abbrev pub GoesOn : Given → List Word → Type 0
GoesOn g w = (closed z : ℕ) → g.closed ≡ Some closed → IsLiveEnding g closed w z → ⊥

-- no ending is found, or this one is the first, and the words made go no further than the group after its own
abbrev pub HasEnd : Option ℕ → Given → ℕ → List Word → Type 0
HasEnd None g made w = GoesOn g w
HasEnd (Some z) g made w = ((closed : ℕ) × (g.closed ≡ Some closed) × IsLeast (IsLiveEnding g closed w) z) × (made ≤ g.shape.group * (z / g.shape.group + 2))

-- ---- the scheduler

-- the settings are those of a source
pub record SettingsAre (s : LiveScheduler) (shape : Shape) : Type 0 where
  pub sizes : s.sizes ≡ sizes_of shape
  pub short : s.short ≡ shape.burst_short / 8
  pub group : s.group ≡ shape.group
  pub warm : s.warm ≡ shape.warmup * shape.group

-- the scheduler was given this and made these words, whatever is known of their end
pub record Holds (s : LiveScheduler) (g : Given) (w : List Word) : Type 0 where
  pub settings : SettingsAre s g.shape
  pub given_by : AreGivenBy g (length w)
  -- the words so far
  pub slot : s.slot ≡ length w
  pub right : AreRight g (planned s w)
  pub begun : (t x : ℕ) → IsAt (planned s w) t (Control x) → t < length w
  pub has : HasChunks (source_of g) (planned s w)
  -- the calendar of the far end
  pub incoming : Stands s.incoming g.entries g.flow
  -- the queues, in the order of their channels' turns
  pub turns : AreInTurn g.channels (told_back g.entries g.flow) (planned s w) (channels_of s.turns.items)
  pub left : HaveLeft s.turns.items s.sizes (source_of g) (planned s w)
  -- the burst under way
  pub burst : HoldsBurst s.burst (source_of g) w
  pub spaces : SpacesFit s.free s.short (planned s w)

-- the scheduler was given this, and made these words
pub record Gives (s : LiveScheduler) (g : Given) (w : List Word) : Type 0 where
  pub words : Holds s g w
  -- no channel is listed twice
  pub distinct : AllPairs (λ (a b : ℕ). a ≡ b → ⊥) g.channels
  pub longest : s.max_packet ≡ g.max_packet
  pub packets_closed : s.packets_closed ≡ g.packets_closed
  pub closed : s.closed ≡ g.closed
  pub closed_by : (c : ℕ) → g.closed ≡ Some c → c ≤ length w
  pub finish : HasEnd s.finish g (length w) (planned s w)

-- ---- one control word more

-- the end and what is accepted are as they were, and the words planned are those made before and a block
pub record AddsBlock (old new : LiveScheduler) (w : List Word) (x : ℕ) : Type 0 where
  pub run : List ℕ
  pub words : planned new (w ++ Control x ∷ []) ≡ w ++ block x run
  pub end : (new.closed ≡ old.closed) × (new.finish ≡ old.finish)
  pub accepts : (new.max_packet ≡ old.max_packet) × (new.packets_closed ≡ old.packets_closed)

abbrev pub as_control : ℕ → Word
as_control x = Control x

abbrev pub as_data : ℕ → Word
as_data x = Data x

-- the last word is not made
abbrev pub MayGoOn : LiveScheduler → Type 0
MayGoOn s = (z : ℕ) → s.finish ≡ Some z → s.slot ≡ s.group * (z / s.group + 2) → ⊥

-- the last burst is given as a whole, and a control word may follow
pub record IsDue (s : LiveScheduler) : Type 0 where
  pub given : s.burst.count ≤ s.burst.given
  pub slot : s.slot < most_words

-- no burst may start: in the warm-up, too near the last burst word, or where no channel may burst
abbrev pub IsIdleTime : LiveScheduler → List Told → Type 0
IsIdleTime s told = (s.slot < s.warm) ⊎ ((s.slot < s.free) ⊎ IsFirstReady told s.turns.items None)

-- a burst may start, on the channel of the queue at this place
pub record IsBurstTime (s : LiveScheduler) (told : List Told) (at : ℕ) : Type 0 where
  pub warm : s.warm ≤ s.slot
  pub free : s.free ≤ s.slot
  pub first : IsFirstReady told s.turns.items (Some at)

-- ---- counts

-- the counts of a channel: what was given to it, and what its bursts carry whose words were made so far
abbrev pub AreCountsOf : Counts → Given → List Word → ℕ → Type 0
AreCountsOf counts g w channel = AreCounts counts (packets_of (source_of g) channel) (take (bursts_in w channel) (chunks_of (source_of g) channel))

-- the packets that were given to a channel, but for those whose last burst is one of these words
abbrev pub packets_left : Given → List Word → ℕ → ℕ
packets_left g w channel = length (packets_of (source_of g) channel) - ends_in (take (bursts_in w channel) (chunks_of (source_of g) channel))

-- those of all listed channels, or the most that 64 bits can say
abbrev pub left_in_all : Given → List Word → ℕ
left_in_all g w = min (sum_by (packets_left g w) g.channels) (2 ^ 64 - 1)

-- ---- refusals

-- whether a channel is one of these
abbrev pub is_among : List ℕ → ℕ → Bool
is_among [] channel = false
is_among (c ∷ channels) channel = if nat_eq c channel then true else is_among channels channel

-- no packet is given any more: the packets were closed, or the stream
abbrev pub refuses_packets : Given → Bool
refuses_packets g = g.packets_closed || is_some g.closed

-- why a packet is refused, but for want of memory
abbrev pub refusal_of : Given → ℕ → List ℕ → Option Refused
refusal_of g channel bytes =
    if refuses_packets g then Some refused.Closed
    else if not (is_among g.channels channel) then Some refused.UnknownChannel
    else if nat_lt (length bytes) 1 then Some refused.Empty
    else if nat_lt g.max_packet (length bytes) then Some refused.TooLong
    else if nat_lt most_bytes (bytes_in (packets_of (source_of g) channel) + length bytes) then Some refused.TooMuch
    else None

-- why a state of this end's own is refused
abbrev pub local_refusal_of : Given → ℕ → Option LocalRefused
local_refusal_of g channel =
    if is_some g.closed then Some local_refused.Closed
    else if not (is_among g.channels channel) then Some local_refused.UnknownChannel
    else None

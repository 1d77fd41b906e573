-- A payload stream whose packets and rows are given while it is made: what was given and when, the stream of it, and where it
-- ends once it is closed. A slot is a place in the list of words, from 0; what was given after n words were made has slot n, and
-- counts from slot n on.
use Rattle.std.specs.Prelude.{◌≡◌, ℕ, ◌+◌, ◌-◌, ◌*◌, ◌/◌, ◌^◌, ◌<◌, ◌≤◌, Bool, List, ◌++◌, length, map, take, filter, All, nat_le, Option, Some}
use Rattle.lk_base.specs.Words.{payload}
use Rattle.lk_base.specs.Fields.{burst_field}
use Rattle.lk_base.specs.Least.{IsLeast}
use Rattle.lk_base.specs.declared.word.Word.{Word}
use Rattle.lk_base.specs.declared.word.Word.TheVariants.{Data, Control}
use Rattle.lk_base.specs.declared.shape.Shape.{Shape}
use Rattle.stream_model.specs.BurstStream.{Source, Chunk, IsAt, IsReady, StandsInBurst, IsRightControl, data_after, data_words, chunk_of_burst}
use Rattle.stream_model.specs.declared.rows.FlowRow.{FlowRow}
use Rattle.stream_model.specs.declared.rows.LocalRow.{LocalRow}

-- a packet, and how many words were made before it was given
pub record LivePacket : Type 0 where
  pub slot : ℕ
  pub channel : ℕ
  pub bytes : List ℕ

-- All that was given: the shape, the most bytes of a packet, the listed channels and the calendar's entries at the start; then packets,
-- flow rows and local rows, each list in the order in which they were given; whether the packets were closed, so that none is given
-- after them; and how many words were made when the stream was closed, if it was.
pub record Given : Type 0 where
  pub shape : Shape
  pub max_packet : ℕ
  pub channels : List ℕ
  pub entries : List ℕ
  pub packets : List LivePacket
  pub flow : List FlowRow
  pub local : List LocalRow
  pub packets_closed : Bool
  pub closed : Option ℕ

-- a packet with its channel
abbrev pub as_sent : LivePacket → ℕ × List ℕ
as_sent p = (p.channel, p.bytes)

-- the packets that were given up to a slot
abbrev pub packets_until : List LivePacket → ℕ → List (ℕ × List ℕ)
packets_until packets t = map as_sent (filter (λ (p : LivePacket). nat_le p.slot t) packets)

-- The source at a slot: the packets that were given up to it, and all rows. Rows of later slots do not count at a slot, in
-- whatever source they stand.
abbrev pub source_at : Given → ℕ → Source
source_at given t = record {
  shape = given.shape;
  channels = given.channels;
  entries = given.entries;
  packets = packets_until given.packets t;
  flow = given.flow;
  local = given.local;
}

-- the slots of the warm-up, where no burst starts
abbrev pub warmup_of : Given → ℕ
warmup_of given = given.shape.warmup * given.shape.group

-- The words made so far: each is what the open stream of the source at its slot asks for. The end of the list may cut the last
-- burst.
pub record IsLiveStream (given : Given) (w : List Word) : Type 0 where
  -- each number is one of 64 bits
  pub sized : (t : ℕ) (word : Word) → IsAt w t word → payload word < 2 ^ 64
  -- every data word stands in a burst
  pub data_in_bursts : (t x : ℕ) → IsAt w t (Data x) → StandsInBurst (take t w)
  -- each slot of the warm-up that is there is an idle
  pub warmup : (t : ℕ) → t < length w → t < warmup_of given → (x : ℕ) × IsAt w t (Control x) × (burst_field x ≡ 0)
  -- the burst at slot s carries the data words of its chunk, by the packets given up to s, as far as the list goes
  pub chunks : (s x : ℕ) → IsAt w s (Control x) → burst_field x ≡ 1 →
      (chunk : Chunk) × (chunk_of_burst (source_at given s) (take s w) (Control x) ≡ Some chunk) × (data_after w s ≡ take (length w - (s + 1)) (data_words chunk.bytes))
  -- the control word at slot t is right by what was given up to t: a burst stands there exactly where a channel is ready then, and
  -- it is that of the least key
  pub controls : (t x : ℕ) → IsAt w t (Control x) → IsRightControl (source_at given t) (take t w) x

-- at slot z, from that of the close on and after the warm-up, a control word stands and no channel is ready: what is left is held
pub record IsLiveEnding (given : Given) (closed : ℕ) (w : List Word) (z : ℕ) : Type 0 where
  pub after : closed ≤ z
  pub control : (x : ℕ) × IsAt w z (Control x)
  pub warm : warmup_of given ≤ z
  pub not_ready : (channel : ℕ) → IsReady (source_at given z) (take z w) channel → ⊥

-- the whole stream of what was given until it was closed: it ends two groups from the group of the first slot of that kind on
pub record IsWholeLiveStream (given : Given) (w : List Word) : Type 0 where
  pub live : IsLiveStream given w
  pub finish : (closed z : ℕ) × (given.closed ≡ Some closed) × IsLeast (IsLiveEnding given closed w) z × (length w ≡ given.shape.group * (z / given.shape.group + 2))

-- ---- what is given later

-- the same with more packets and rows, after all others
abbrev pub with_more : Given → List LivePacket → List FlowRow → List LocalRow → Given
with_more given packets flow local = record given { packets = given.packets ++ packets; flow = given.flow ++ flow; local = given.local ++ local }

-- each of these was given after so many words
pub record AreGivenFrom (slot : ℕ) (packets : List LivePacket) (flow : List FlowRow) (local : List LocalRow) : Type 0 where
  pub packets_later : All (λ (p : LivePacket). slot ≤ p.slot) packets
  pub flow_later : All (λ (row : FlowRow). slot ≤ row.slot) flow
  pub local_later : All (λ (row : LocalRow). slot ≤ row.slot) local

-- all packets were given before the first word
abbrev pub IsGivenAtOnce : Given → Type 0
IsGivenAtOnce given = All (λ (p : LivePacket). p.slot ≡ 0) given.packets

-- The listed packets are the sent ones.
use Rattle.std.specs.Prelude.{true, ℕ, ◌≡◌, ◌≤◌, ◌==◌, cond, List, map, flat_map, filter_map, take, length, slice_get, count_by, All, Option, Some, None}
use Rattle.std.specs.List.{enumerate_from}
use Rattle.std.specs.Option.{option_map}
use Rattle.lk_base.specs.Words.{word_at}
use Rattle.lk_base.specs.declared.position.Pos.{Pos}
use Rattle.lk_base.specs.declared.word.Word.{Word}
use Rattle.receive_model.specs.Pieces as received
use Rattle.receive_model.specs.Positions.{numbered}
use Rattle.stream_model.specs.BurstStream.{Source, IsBurstStream, packets_of, bursts_in, next_chunk, chunk_of_burst, chunks_by}
use Rattle.delivery_laws.specs.SentPackets.{sent_packets}
use Rattle.tx_words.specs.declared.sent.Sent.{Sent}
use Rattle.tx_words.specs.Sent.{AreSent, IsSent, starts, starts_on}

-- each packet has a byte
abbrev pub EachHasBytes : Source → Type 0
EachHasBytes source = All (λ (p : ℕ × List ℕ). 1 ≤ length p.1) source.packets

-- of a listed packet of this channel that has its end word: its number, and the places of its SOP word and of its end word
abbrev pub ended_on : ℕ → Sent → Option (ℕ × (Pos × Pos))
ended_on channel s = cond (s.channel == channel) (option_map (λ z. (s.number, (numbered s.first, numbered z))) s.last) None

-- In a stream, the listed packets of a channel that have their end words are the sent packets of the channel, in order.
abbrev pub ListsTheSent : Type 0
ListsTheSent = (source : Source) (channel : ℕ) (w : List Word) (sent : List Sent) → EachHasBytes source → IsBurstStream source w → AreSent w sent →
    filter_map (ended_on channel) sent
    ≡ enumerate_from 0 (map (λ (p : received.Packet). (p.first, p.last)) (sent_packets source channel w))

-- A stream starts no more packets on a channel than the channel has.
abbrev pub StartsItsPackets : Type 0
StartsItsPackets = (source : Source) (channel : ℕ) (w : List Word) → EachHasBytes source → IsBurstStream source w →
    count_by (starts_on channel) w ≤ length (packets_of source channel)

-- A listed packet is the one that its number names among the packets of its channel, whether its end word is in the stream
-- or not.
pub record IsPacketOf (source : Source) (w : List Word) (s : Sent) : Type 0 where
  pub packet : List ℕ
  pub named : slice_get (packets_of source s.channel) s.number ≡ Some packet
  -- the burst of its SOP word carries the first chunk of the packet
  pub first : chunk_of_burst source (take s.first w) (word_at w s.first) ≡ Some (next_chunk source.shape.burst_max source.shape.burst_min true packet)
  -- the bursts before it on the channel are those of the packets before it, all of them
  pub before : bursts_in (take s.first w) s.channel ≡ length (flat_map (chunks_by source.shape) (take s.number (packets_of source s.channel)))

-- In the first words of a stream each listed packet is that of its number.
abbrev pub NumbersArePackets : Type 0
NumbersArePackets = (source : Source) (w : List Word) (t : ℕ) (s : Sent) → EachHasBytes source → IsBurstStream source w → IsSent (take t w) s → IsPacketOf source (take t w) s

-- The first words of a stream start no more packets than the source has.
abbrev pub StartsAreFew : Type 0
StartsAreFew = (source : Source) (w : List Word) (t : ℕ) → EachHasBytes source → IsBurstStream source w → count_by starts (take t w) ≤ length source.packets

-- the words determine the list
abbrev pub OneList : Type 0
OneList = (w : List Word) (one other : List Sent) → AreSent w one → AreSent w other → one ≡ other

-- each list of words has one
abbrev pub SomeList : Type 0
SomeList = (w : List Word) → (sent : List Sent) × AreSent w sent

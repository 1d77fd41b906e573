-- What is given while words are made, worked.
use Rattle.std.specs.Prelude.{◌≡◌, ℕ, true, false, List, [], ◌∷◌, length, map, Some, None}
use Rattle.std.specs.declared.cmp.Ordering.TheVariants.{Less}
use Rattle.lk_base.specs.Limits.{longest_packet}
use Rattle.lk_base.specs.declared.word.Word.{Word}
use Rattle.stream_model.specs.BurstStream.{Source, burst_mark, chunks_of, key, mark_cmp}
use Rattle.stream_model.specs.StreamExamples.{first_on_one, first_on_three, idle, in_turn, in_turn_words, one_packet, one_packet_words, two_channels}
use Rattle.live_stream.specs.LiveStream.{Given, IsLiveStream, IsWholeLiveStream, LivePacket, packets_until, source_at, with_more}
use Rattle.live_stream.specs.Gives.{closed_at, left_in_all, local_refusal_of, packets_closed_in, refusal_of}
use Rattle.live_stream.specs.declared.refused.LocalRefused.TheVariants as local_refused
use Rattle.live_stream.specs.declared.refused.Refused.TheVariants as refused

-- a packet of a channel, given after so many words
abbrev pub given_after : ℕ → ℕ → List ℕ → LivePacket
given_after slot channel bytes = record { slot = slot; channel = channel; bytes = bytes }

-- all that a source has, its packets before the first word, closed at a slot
abbrev pub at_once : Source → ℕ → Given
at_once source closed = record {
  shape = source.shape;
  max_packet = longest_packet;
  channels = source.channels;
  entries = source.entries;
  packets = map (λ (p : ℕ × List ℕ). given_after 0 p.0 p.1) source.packets;
  flow = source.flow;
  local = source.local;
  packets_closed = true;
  closed = Some closed;
}

-- channel 1 has a packet from the start on, and one more from slot 4 on; channel 3 has two from the start on
abbrev pub fed_late : Given
fed_late = record {
  shape = two_channels.shape;
  max_packet = longest_packet;
  channels = two_channels.channels;
  entries = two_channels.entries;
  packets = given_after 0 1 (5 ∷ []) ∷ given_after 0 3 (6 ∷ []) ∷ given_after 0 3 (7 ∷ []) ∷ given_after 4 1 (8 ∷ 9 ∷ []) ∷ [];
  flow = [];
  local = [];
  packets_closed = false;
  closed = None;
}

-- channel 1 had its burst at slot 1, and channel 3 one at slot 2
abbrev pub both_burst : List Word
both_burst = idle ∷ first_on_one ∷ first_on_three ∷ idle ∷ []

-- the same, where no packet may have more bytes than this
abbrev pub up_to : ℕ → Given
up_to max_packet = record fed_late { max_packet = max_packet }

pub record LiveExamples : Type 0 where
  -- a packet counts from its slot on
  pub below_its_slot : packets_until fed_late.packets 3 ≡ (1, 5 ∷ []) ∷ (3, 6 ∷ []) ∷ (3, 7 ∷ []) ∷ []
  pub at_its_slot : packets_until fed_late.packets 4 ≡ (1, 5 ∷ []) ∷ (3, 6 ∷ []) ∷ (3, 7 ∷ []) ∷ (1, 8 ∷ 9 ∷ []) ∷ []
  pub one_chunk_below : length (chunks_of (source_at fed_late 3) 1) ≡ 1
  pub two_chunks_from_there : length (chunks_of (source_at fed_late 4) 1) ≡ 2
  -- a channel that gets a packet keeps its place: that of its last burst, before those that had one since
  pub keeps_its_place : key (source_at fed_late 4) both_burst 1 ≡ burst_mark 1
  pub goes_before_three : mark_cmp (key (source_at fed_late 4) both_burst 1) (key (source_at fed_late 4) both_burst 3) ≡ Less
  -- the streams of two sources, whose packets are given at once
  pub whole_of_one_packet : IsWholeLiveStream (at_once one_packet 0) one_packet_words
  pub whole_of_two_channels : IsWholeLiveStream (at_once in_turn 1) in_turn_words
  -- and with a packet that is given after their words
  pub with_a_later_packet : IsLiveStream (with_more (at_once one_packet 0) (given_after 5 1 (9 ∷ []) ∷ []) [] []) one_packet_words
  -- a packet may have as many bytes as the longest, and no more
  pub the_longest : refusal_of (up_to 2) 1 (8 ∷ 9 ∷ []) ≡ None
  pub one_byte_longer : refusal_of (up_to 1) 1 (8 ∷ 9 ∷ []) ≡ Some refused.TooLong
  pub no_byte : refusal_of fed_late 1 [] ≡ Some refused.Empty
  -- once the packets are closed none is accepted, of whatever channel, and a state still is
  pub after_the_packets : refusal_of (packets_closed_in fed_late) 2 (8 ∷ []) ≡ Some refused.Closed
  pub state_after_the_packets : local_refusal_of (packets_closed_in fed_late) 3 ≡ None
  -- once the stream is closed neither is
  pub after_the_close : refusal_of (closed_at fed_late both_burst) 1 (8 ∷ []) ≡ Some refused.Closed
  pub state_after_the_close : local_refusal_of (closed_at fed_late both_burst) 2 ≡ Some local_refused.Closed
  -- channel 2 is not listed
  pub of_no_channel : refusal_of fed_late 2 [] ≡ Some refused.UnknownChannel
  pub state_of_no_channel : local_refusal_of fed_late 2 ≡ Some local_refused.UnknownChannel
  -- of two packets of each channel one is left after its first burst
  pub all_are_left : left_in_all fed_late [] ≡ 4
  pub two_are_left : left_in_all fed_late both_burst ≡ 2

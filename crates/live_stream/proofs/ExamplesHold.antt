-- The worked examples compute, and the premises of the laws are met.
use Rattle.std.proofs.Common.{◌≡◌, ◌≤◌, ℕ, List, [], ◌∷◌, map, All, refl, arith}
use Rattle.std.proofs.lemmas.List.Elements.{All-cons, All-nil}
use Rattle.stream_model.specs.BurstStream.{last_burst}
use Rattle.stream_model.specs.Examples.{flow_row, reset_first_off, reset_none_off}
use Rattle.stream_model.specs.StreamExamples.{in_turn, in_turn_words, one_packet, one_packet_words}
use Rattle.stream_model.specs.declared.rows.FlowRow.{FlowRow}
use Rattle.stream_model.specs.declared.rows.LocalRow.{LocalRow}
use Rattle.stream_model.proofs.StreamsHold.{stream_examples_hold}
use Rattle.live_stream.specs.Examples.{LiveExamples, at_once, given_after}
use Rattle.live_stream.specs.LiveStream.{AreGivenFrom, IsWholeLiveStream, LivePacket}
use Rattle.live_stream.proofs.AtOnce.{whole_is_stream}
use Rattle.live_stream.proofs.Later.{later_is_not_heard}

all_first : (packets : List (ℕ × List ℕ)) → All (λ (p : LivePacket). p.slot ≡ 0) (map (λ (p : ℕ × List ℕ). given_after 0 p.0 p.1) packets)
all_first [] = All-nil (λ (p : LivePacket). p.slot ≡ 0)
all_first (p ∷ packets) = All-cons (λ (q : LivePacket). q.slot ≡ 0) (given_after 0 p.0 p.1) (map (λ (q : ℕ × List ℕ). given_after 0 q.0 q.1) packets) refl (all_first packets)

rows_by_one : All (λ (row : FlowRow). row.slot ≤ 1) in_turn.flow
rows_by_one =
    let P = λ (row : FlowRow). row.slot ≤ 1 in
    All-cons P (flow_row 0 reset_first_off) (flow_row 1 reset_none_off ∷ []) (omega arith) (All-cons P (flow_row 1 reset_none_off) [] (omega arith) (All-nil P))

one_whole : IsWholeLiveStream (at_once one_packet 0) one_packet_words
one_whole = (whole_is_stream (at_once one_packet 0) one_packet_words 0 (all_first one_packet.packets) refl (omega arith) (All-nil (λ (row : FlowRow). row.slot ≤ 0))).1 stream_examples_hold.one_packet_has_words

two_whole : IsWholeLiveStream (at_once in_turn 1) in_turn_words
two_whole = (whole_is_stream (at_once in_turn 1) in_turn_words 1 (all_first in_turn.packets) refl (omega arith) rows_by_one).1 stream_examples_hold.in_turn_has_words

later : AreGivenFrom 5 (given_after 5 1 (9 ∷ []) ∷ []) [] []
later = record {
  packets_later = All-cons (λ (p : LivePacket). 5 ≤ p.slot) (given_after 5 1 (9 ∷ [])) [] (omega arith) (All-nil (λ (p : LivePacket). 5 ≤ p.slot));
  flow_later = All-nil (λ (row : FlowRow). 5 ≤ row.slot);
  local_later = All-nil (λ (row : LocalRow). 5 ≤ row.slot);
}

pub live_examples_hold : LiveExamples
unfolding last_burst
live_examples_hold = record {
  below_its_slot = refl;
  at_its_slot = refl;
  one_chunk_below = refl;
  two_chunks_from_there = refl;
  keeps_its_place = refl;
  goes_before_three = refl;
  whole_of_one_packet = one_whole;
  whole_of_two_channels = two_whole;
  the_longest = refl;
  one_byte_longer = refl;
  no_byte = refl;
  after_the_packets = refl;
  state_after_the_packets = refl;
  after_the_close = refl;
  state_after_the_close = refl;
  of_no_channel = refl;
  state_of_no_channel = refl;
  all_are_left = refl;
  two_are_left = refl;
  with_a_later_packet = (later_is_not_heard (at_once one_packet 0) (given_after 5 1 (9 ∷ []) ∷ []) [] [] one_packet_words later).0 one_whole.live;
}

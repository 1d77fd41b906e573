-- A stream that is held lacks a packet: of a channel with bytes left at the finish the last packets have no end word.
use Rattle.std.proofs.Common.{◌≡◌, ℕ, zero, suc, ◌+◌, ◌-◌, ◌<◌, ◌≤◌, ◌==◌, inl, inr, true, cond, List, [], ◌∷◌, ◌++◌, drop, take, length, flat_map, length-append, length-drop, slice_get, refl, sym, ap, ◌∙◌, subst, arith, Option, Some, None}
use Rattle.std.specs.List.{cons_option}
use Rattle.std.proofs.lemmas.Bool.{and_parts, cases_lt}
use Rattle.std.proofs.lemmas.List.Sums.{sum_by-cons}
use Rattle.std.proofs.lemmas.Option.{slice_get_past}
use Rattle.lk_base.specs.Fields.{burst_field, channel_number, has_burst}
use Rattle.lk_base.specs.declared.position.Pos.{Pos}
use Rattle.lk_base.specs.declared.shape.Shape.{Shape}
use Rattle.lk_base.specs.declared.word.Word.{Word}
use Rattle.lk_base.specs.declared.word.Word.TheVariants.{Data, Control}
use Rattle.stream_model.specs.BurstStream.{HasBytesLeft, IsAt, IsBurstStream, IsFinish, IsHeld, Source, bursts_in, chunks_by, is_burst_on, packets_of}
use Rattle.stream_model.proofs.Finish.{burst_below}
use Rattle.stream_model.proofs.OneStream.{burst_word}
use Rattle.receive_model.specs.Lists.{first_of}
use Rattle.receive_model.specs.Pieces.{Packet}
use Rattle.receive_model.proofs.Cuts.{split}
use Rattle.delivery_laws.specs.SentPackets.{burst_slots, packet_on, sent_from, sent_packets_at}
use Rattle.delivery_laws.proofs.Held.{count_slots}
use Rattle.run_shell.specs.declared.status.Status.{Status}
use Rattle.run_shell.specs.declared.status.Status.TheVariants.{Held}
use Rattle.stream_commands.specs.Stream.{IsStatusOf}
use Rattle.tx_words.specs.Sources.{IsHeldOn}
use Rattle.link_laws.specs.Accidents.{slot_place}
use Rattle.link_reports.specs.Lines.{held_line}
use Rattle.run_shell.specs.Outcome.{Outcome}
use Rattle.link_commands.specs.Delivery.{LacksAPacket, LinkLacksAPacket, sent_on}
use Rattle.link_commands.specs.Inputs.{LinkReading}
use Rattle.link_commands.specs.Linked.{IsEndedBy, IsLinkedBy, link_text, missing_among, missing_lines, sent_over}
use Rattle.link_commands.proofs.AllSent.{captured}

-- ---- no bursts after the finish

burst_on : (channel : ℕ) (word : Word) → is_burst_on channel word ≡ true → (x : ℕ) × (word ≡ Control x) × (burst_field x ≡ 1)
burst_on channel (Data x) h = cc
burst_on channel (Control x) h = (x, refl, burst_word x (and_parts (has_burst x) (channel_number true x == channel) h).0)

abbrev counts : ℕ → Word → ℕ
counts channel word = cond (is_burst_on channel word) 1 0

-- where all burst words stand below slot z, a channel has as many below z as there are
all_below : (channel z : ℕ) (w : List Word) → ((s x : ℕ) → IsAt w s (Control x) → burst_field x ≡ 1 → s < z) → bursts_in w channel ≡ bursts_in (take z w) channel
all_below channel zero [] below = refl
all_below channel (suc z) [] below = refl
all_below channel zero (word ∷ w) below =
    let more : bursts_in (word ∷ w) channel ≡ counts channel word + bursts_in w channel = sum_by-cons (counts channel) word w in
    let rest : bursts_in w channel ≡ 0 = all_below channel zero w (λ s x at burst. (let h = below (suc s) x at burst in omega (arith, h))) in
    split (is_burst_on channel word)
    (λ on. (let b = burst_on channel word on in let h = below 0 b.0 (ap Some b.1) b.2 in absurd (omega (arith, h))))
    (λ off. (let none : counts channel word ≡ 0 = rw off refl in omega (arith, more, none, rest)))
all_below channel (suc z) (word ∷ w) below =
    sum_by-cons (counts channel) word w
    ∙ ap (λ n. counts channel word + n) (all_below channel z w (λ s x at burst. (let h = below (suc s) x at burst in omega (arith, h))))
    ∙ sym (sum_by-cons (counts channel) word (take z w))

-- ---- fewer packets than there are bursts for

no_packet_on : (place : ℕ → Pos) (w : List Word) (bytes : List ℕ) (first last : Option ℕ) → last ≡ None → packet_on place w bytes first last ≡ None
no_packet_on place w bytes None last e = refl
no_packet_on place w bytes (Some a) None e = refl
no_packet_on place w bytes (Some a) (Some s) e = cc

one_more : (o : Option Packet) (xs : List Packet) (n : ℕ) → length xs ≤ n → length (cons_option o xs) ≤ suc n
one_more None xs n h = omega (arith, h)
one_more (Some p) xs n h = omega (arith, h)

one_less : (o : Option Packet) (xs : List Packet) (n : ℕ) → length xs < n → length (cons_option o xs) < suc n
one_less None xs n h = omega (arith, h)
one_less (Some p) xs n h = omega (arith, h)

module _ (place : ℕ → Pos) (shape : Shape) (w : List Word) where
  at_most_all : (packets : List (List ℕ)) (slots : List ℕ) → length (sent_from place shape w packets slots) ≤ length packets
  at_most_all [] slots = omega arith
  at_most_all (bytes ∷ packets) slots =
      one_more (packet_on place w bytes (first_of slots) (slice_get slots (length (chunks_by shape bytes) - 1)))
      (sent_from place shape w packets (drop (length (chunks_by shape bytes)) slots)) (length packets)
      (at_most_all packets (drop (length (chunks_by shape bytes)) slots))

  fewer_sent : (packets : List (List ℕ)) (slots : List ℕ) → length slots < length (flat_map (chunks_by shape) packets) → length (sent_from place shape w packets slots) < length packets
  fewer_sent [] slots short = absurd (omega (arith, short))
  fewer_sent (bytes ∷ packets) slots short =
      let n : ℕ = length (chunks_by shape bytes) in
      let rest : List Packet = sent_from place shape w packets (drop n slots) in
      let total : length (flat_map (chunks_by shape) (bytes ∷ packets)) ≡ n + length (flat_map (chunks_by shape) packets) = length-append (chunks_by shape bytes) (flat_map (chunks_by shape) packets) in
      elim (cases_lt (length slots) n) [
        | inl few ↦
            (let none : packet_on place w bytes (first_of slots) (slice_get slots (n - 1)) ≡ None = no_packet_on place w bytes (first_of slots) (slice_get slots (n - 1)) (slice_get_past slots (n - 1) (omega (arith, few))) in
            let all : length rest ≤ length packets = at_most_all packets (drop n slots) in
            rw none (omega (arith, all)))
        | inr enough ↦
            (let left : length (drop n slots) ≡ length slots - n = length-drop n slots in
            one_less (packet_on place w bytes (first_of slots) (slice_get slots (n - 1))) rest (length packets) (fewer_sent packets (drop n slots) (omega (arith, left, total, short, enough))))
      ]

-- of a channel that has bytes left at the finish fewer packets are sent than it has
pub lacks_one : (place : ℕ → Pos) (source : Source) (channel z : ℕ) (w : List Word) → IsBurstStream source w → IsFinish source w z → HasBytesLeft source (take z w) channel →
    length (sent_packets_at place source channel w) < length (packets_of source channel)
lacks_one place source channel z w stream finish left =
    let count : length (burst_slots channel 0 w) ≡ bursts_in w channel = count_slots channel 0 w in
    let same : bursts_in w channel ≡ bursts_in (take z w) channel = all_below channel z w (λ s x at burst. burst_below source w z s x stream finish at burst) in
    fewer_sent place source.shape w (packets_of source channel) (burst_slots channel 0 w) (omega (arith, count, same, left))

-- ---- a link with the status `Held`

module _ (i : LinkReading) (stream : List Word) (o : Outcome) (h : IsLinkedBy i stream o) where
  abbrev lines : List ℕ
  lines = link_text h.over.source stream h.reports h.setting h.events h.counts (missing_lines h.sent (missing_among (sent_over i stream) h.events h.sent))

  lacks_on : (channel : ℕ) → IsHeldOn h.over.source stream channel → o.text ≡ lines ++ held_line channel → LacksAPacket i stream o h
  lacks_on channel (z, finish, least) text = record {
    channel = channel;
    held_on = (z, finish, least);
    named = text;
    fewer = subst (λ (ps : List (List ℕ)). length (sent_on i stream h.over channel) < length ps) (captured i stream o h channel)
        (lacks_one (slot_place (sent_over i stream)) h.over.source channel z stream h.over.is_stream finish least.0.1);
  }

  ended : IsHeld h.over.source stream → IsEndedBy h.over.source stream lines o.text → LacksAPacket i stream o h
  ended held (inl (channel, on, text)) = lacks_on channel on text
  ended held (inr (free, text)) = absurd (free held)

  is_held : (status : Status) → IsStatusOf h.over.source stream status → status ≡ Held → IsHeld h.over.source stream
  is_held status (inl (e, held)) s = held
  is_held status (inr (e, free)) s = absurd cc

pub lacks_a_packet : LinkLacksAPacket
lacks_a_packet i stream o h status = ended i stream o h (is_held i stream o h o.status h.status status) h.text

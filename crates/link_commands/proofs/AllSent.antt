-- Which packets are sent: the same at any places, and all packets of the captures where the stream is not held.
use Rattle.std.proofs.Common.{◌≡◌, ℕ, suc, ◌-◌, ◌==◌, eqb-true, inl, inr, ◌⊎◌, All, Contains, filter, List, [], ◌∷◌, drop, length, map, slice_get, refl, sym, ap, ◌∙◌, subst, arith, Option, Some, None}
use Rattle.std.specs.List.{cons_option}
use Rattle.std.specs.Option.{option_map}
use Rattle.lk_base.specs.declared.position.Pos.{Pos}
use Rattle.lk_base.specs.declared.shape.Shape.{Shape}
use Rattle.lk_base.specs.declared.word.Word.{Word}
use Rattle.stream_model.specs.BurstStream.{IsHeld, Source, chunks_by, packets_of}
use Rattle.receive_model.specs.Lists.{first_of}
use Rattle.receive_model.specs.Pieces.{Packet}
use Rattle.receive_model.specs.Positions.{numbered}
use Rattle.receive_model.proofs.Cuts.{split}
use Rattle.delivery_laws.specs.LawOnWords.{EachIsPacket}
use Rattle.delivery_laws.specs.SentPackets.{burst_slots, next_control, packet_on, sent_from, sent_packets}
use Rattle.delivery_laws.proofs.Held.{the_law_on_held}
use Rattle.link_laws.specs.Accidents.{slot_place}
use Rattle.link_plan.specs.Listing.{channels_in_order}
use Rattle.link_plan.specs.Views.{numbers_in}
use Rattle.plan_inputs.specs.Values.{AreOn}
use Rattle.run_shell.specs.declared.status.Status.{Status}
use Rattle.run_shell.specs.declared.status.Status.TheVariants.{Done}
use Rattle.run_shell.specs.Outcome.{Outcome}
use Rattle.stream_commands.specs.Stream.{IsStatusOf}
use Rattle.receipts.specs.Received.{bytes_of}
use Rattle.link_commands.specs.Delivery.{LinkSendsAll, PlacesChangeNoPacket, SendsAll, captured_on}
use Rattle.link_commands.specs.Inputs.{LinkReading}
use Rattle.link_commands.specs.Linked.{IsLinkedBy, sent_over}
use Rattle.link_commands.proofs.Delivers.{each_packet, read_plan}
use Rattle.link_commands.proofs.OnChannels.{packets_on_channels}

-- ---- places

module _ (p q : ℕ → Pos) (w : List Word) where
  packet_alike : (bytes : List ℕ) (first last : Option ℕ) (x y : List Packet) → bytes_of x ≡ bytes_of y → bytes_of (cons_option (packet_on p w bytes first last) x) ≡ bytes_of (cons_option (packet_on q w bytes first last) y)
  packet_alike bytes None last x y e = e
  packet_alike bytes (Some a) None x y e = e
  packet_alike bytes (Some a) (Some s) x y e = by (next_control w s)
    where
      by : (end : Option ℕ) → bytes_of (cons_option (option_map (λ z. record { bytes = bytes; first = p a; last = p z }) end) x) ≡ bytes_of (cons_option (option_map (λ z. record { bytes = bytes; first = q a; last = q z }) end) y)
      by None = e
      by (Some z) = ap (λ rest. bytes ∷ rest) e

  packets_alike : (shape : Shape) (packets : List (List ℕ)) (slots : List ℕ) → bytes_of (sent_from p shape w packets slots) ≡ bytes_of (sent_from q shape w packets slots)
  packets_alike shape [] slots = refl
  packets_alike shape (bytes ∷ packets) slots =
      packet_alike bytes (first_of slots) (slice_get slots (length (chunks_by shape bytes) - 1))
      (sent_from p shape w packets (drop (length (chunks_by shape bytes)) slots)) (sent_from q shape w packets (drop (length (chunks_by shape bytes)) slots))
      (packets_alike shape packets (drop (length (chunks_by shape bytes)) slots))

pub places_change_no_packet : PlacesChangeNoPacket
places_change_no_packet p q source channel w = packets_alike p q w source.shape (packets_of source channel) (burst_slots channel 0 w)

-- ---- all packets

-- a channel has no packets, or it is one of those that all packets are on
none_or_listed : (channels : List ℕ) (channel : ℕ) (packets : List (ℕ × List ℕ)) → All (λ (p : ℕ × List ℕ). Contains channels p.0) packets →
    (map (λ (p : ℕ × List ℕ). p.1) (filter (λ (p : ℕ × List ℕ). p.0 == channel) packets) ≡ []) ⊎ Contains channels channel
none_or_listed channels channel [] on = inl refl
none_or_listed channels channel (p ∷ packets) on = split (p.0 == channel)
    (λ same. inr (subst (Contains channels) (eqb-true p.0 channel same) (on 0 p (omega arith))))
    (λ other. rw other (none_or_listed channels channel packets (λ k d lt. on (suc k) d (omega (arith, lt)))))

-- of no packets all are sent
none_sent : (source : Source) (w : List Word) (packets : List (List ℕ)) (slots : List ℕ) → packets ≡ [] → bytes_of (sent_from numbered source.shape w packets slots) ≡ packets
none_sent source w packets slots e = rw e refl

module _ (i : LinkReading) (stream : List Word) (o : Outcome) (h : IsLinkedBy i stream o) where
  is_free : o.status ≡ Done → IsHeld h.over.source stream → ⊥
  is_free done = by o.status h.status done
    where
      by : (status : Status) → IsStatusOf h.over.source stream status → status ≡ Done → IsHeld h.over.source stream → ⊥
      by status (inl (e, held)) done = absurd cc
      by status (inr (e, free)) done = free

  pub captured : (channel : ℕ) → packets_of h.over.source channel ≡ captured_on i channel
  captured channel = ap (λ (ps : List (ℕ × List ℕ)). map (λ (p : ℕ × List ℕ). p.1) (filter (λ (p : ℕ × List ℕ). p.0 == channel) ps)) h.over.is_source.packets

  listed : (channel : ℕ) → AreOn (channels_in_order (numbers_in i.reading.plan)) i.reading.inputs.packets → (packets_of h.over.source channel ≡ []) ⊎ Contains h.over.source.channels channel
  listed channel on =
      none_or_listed h.over.source.channels channel h.over.source.packets
      (subst (λ (ps : List (ℕ × List ℕ)). AreOn h.over.source.channels ps) (sym h.over.is_source.packets) (subst (λ (cs : List ℕ). AreOn cs i.reading.inputs.packets) (sym h.over.is_source.channels) on))

  numbered_sent : (channel : ℕ) → EachIsPacket h.setting.max_packet h.over.source → AreOn (channels_in_order (numbers_in i.reading.plan)) i.reading.inputs.packets → (IsHeld h.over.source stream → ⊥) →
      bytes_of (sent_packets h.over.source channel stream) ≡ packets_of h.over.source channel
  numbered_sent channel each on free = elim (listed channel on) [
    | inl none ↦ none_sent h.over.source stream (packets_of h.over.source channel) (burst_slots channel 0 stream) none
    | inr has ↦ the_law_on_held h.over.source h.setting.max_packet channel stream has h.over.is_stream each free
  ]

  -- where the packets are within the longest and on the plan's channels
  pub all_sent : EachIsPacket h.setting.max_packet h.over.source → AreOn (channels_in_order (numbers_in i.reading.plan)) i.reading.inputs.packets → o.status ≡ Done → SendsAll i stream o h
  all_sent each on done channel =
      places_change_no_packet (slot_place (sent_over i stream)) numbered h.over.source channel stream
      ∙ numbered_sent channel each on (is_free done)
      ∙ captured channel

pub sends_all : LinkSendsAll
sends_all files name i stream o e h done = all_sent i stream o h (each_packet files name i stream o e h) (packets_on_channels files name i.reading (read_plan files name i e)) done

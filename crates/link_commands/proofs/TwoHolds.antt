-- The premises of the delivery theorem with damage are met by a plan of two packets, of which one is lost and the other arrives.
use Rattle.std.proofs.Common.{ℕ, ◌≡◌, refl, sym, ap, ap₂, ◌∙◌, subst, false, List, [], ◌∷◌, map, filter, take, arith, lit<, Contains, Some}
use lib.Chars.{codes}
use Rattle.std.specs.Fmt.{digits}
use Rattle.std.proofs.lemmas.List.Elements.{All-cons, All-nil}
use Rattle.lk_base.specs.Checksum.{bits_of, bits_of_bytes, register_after}
use Rattle.lk_base.specs.Words.{word_at}
use Rattle.lk_base.specs.declared.word.Word.{Word}
use Rattle.lane_model.specs.Framing.{role_of}
use Rattle.lane_model.specs.LaneWords.{framed_at}
use Rattle.lk_outside.specs.Files.{AreBytes}
use Rattle.stream_model.specs.BurstStream.{Source, IsBurstStream}
use Rattle.stream_model.proofs.OneStream.{one_stream}
use Rattle.receive_model.specs.Positions.{Epoch}
use Rattle.receive_model.specs.Stretches.{fault_from, items_of}
use Rattle.receive_model.specs.Pieces.{bytes_of, Packet}
use Rattle.receive_model.specs.Events.{Event, delivered, events}
use Rattle.receive_model.specs.Spans.{spans}
use Rattle.delivery_laws.specs.Law.{meets_none}
use Rattle.delivery_laws.specs.SentPackets.{sent_packets_at}
use Rattle.report_model.specs.declared.counts.Accidents.{Accidents}
use Rattle.link_laws.specs.Accidents.{Sent, accidents_in, no_accidents, slot_place}
use Rattle.link_laws.specs.PremisesMet.{channel_1, two_lanes, wide_packet}
use Rattle.link_laws.specs.Received.{AreReceived}
use Rattle.link_plan.specs.Listing.{channels_in_order}
use Rattle.link_reports.specs.Table.{span_table}
use Rattle.pcap_files.specs.Written.{capture_bytes, header_bytes, record_head}
use Rattle.plan_inputs.specs.Sources.{IsSourceOf}
use Rattle.plan_inputs.proofs.SameSource.{same_source}
use Rattle.run_shell.specs.Outcome.{Outcome, content_of}
use Rattle.receipts.specs.Received.{spans_name}
use Rattle.pcap_files.specs.Names.{capture_name}
use Rattle.receipts.specs.Received as received
use Rattle.tx_words.specs.Sent.{AreSent, IsEnd, IsQuiet, IsSent, ends_on, starts_on}
use Rattle.tx_words.specs.declared.sent.Sent.{Sent as SentPacket}
use Rattle.tx_words.proofs.ListedSent.{one_list}
use Rattle.link_commands.specs.DamagedMet.{locks_of, three_groups_of, three_spans}
use Rattle.link_commands.specs.Delivery.{DeliversUnmet, sent_on}
use Rattle.link_commands.specs.Linked.{IsLinkedBy, missing_among, missing_lines, sent_over}
use Rattle.link_commands.specs.PremisesMet.{one_to_eight, plan_name}
use Rattle.link_commands.specs.TwoPacketsMet.{OneOfTwoArrives, eight_more, second_packet, two_entries, two_epoch, two_files, two_packets, two_reading, two_words}
use Rattle.plan_inputs.proofs.ListedFiles.{HaveBytes, files_of_bytes}
use Rattle.link_commands.proofs.DamagedGroups.{events_are, lose_none, none_there, one_epoch}
use Rattle.link_commands.proofs.Delivers.{counts_blocks, delivers, lists_spans}
use Rattle.link_commands.proofs.LinkWork.{lawful_link}
use Rattle.link_commands.proofs.PremisesHold.{done_by}
use Rattle.link_commands.proofs.TwoStream.{two_stream}
use Rattle.link_commands.proofs.WorkedPlans.{two_read}

-- ---- what is computed

abbrev epochs : List Epoch
epochs = two_epoch ∷ []

abbrev two_sent : Sent
two_sent = sent_over two_reading two_words

none_counted : accidents_in two_sent (locks_of two_words) (three_groups_of two_words ∷ []) ≡ no_accidents
unfolding bits_of register_after fault_from framed_at role_of
none_counted = refl

spans_are : spans (items_of epochs) ≡ three_spans
unfolding bits_of register_after fault_from framed_at role_of
spans_are = refl

abbrev both : List Packet
both = wide_packet ∷ second_packet ∷ []

meets_one : filter (meets_none (items_of epochs)) both ≡ second_packet ∷ []
unfolding bits_of register_after fault_from framed_at role_of
meets_one = refl

one_comes : delivered 1 (events channel_1 epochs) ≡ second_packet ∷ []
unfolding bits_of register_after fault_from bytes_of framed_at role_of
one_comes = refl

both_sent : sent_packets_at (slot_place two_sent) two_packets 1 two_words ≡ both
both_sent = refl

-- ---- the packets that were sent

first_sent : SentPacket
first_sent = record { channel = 1; number = 0; first = 224; last = Some 226 }

second_sent : SentPacket
second_sent = record { channel = 1; number = 1; first = 229; last = Some 231 }

first_ends : IsEnd two_words 1 224 226
first_ends = record { behind = lit< tt; within = lit< tt; ends = refl; quiet = quiet }
  where
    quiet : IsQuiet two_words 1 224 226
    quiet u low high =
        let e : 225 ≡ u = omega (arith, low, high) in
        subst (λ n. (ends_on 1 (take n two_words) (word_at two_words n) ≡ false) × (starts_on 1 (word_at two_words n) ≡ false)) e (refl, refl)

second_ends : IsEnd two_words 1 229 231
second_ends = record { behind = lit< tt; within = lit< tt; ends = refl; quiet = quiet }
  where
    quiet : IsQuiet two_words 1 229 231
    quiet u low high =
        let e : 230 ≡ u = omega (arith, low, high) in
        subst (λ n. (ends_on 1 (take n two_words) (word_at two_words n) ≡ false) × (starts_on 1 (word_at two_words n) ≡ false)) e (refl, refl)

are_sent : AreSent two_words (first_sent ∷ second_sent ∷ [])
unfolding first_sent second_sent
are_sent = record {
  firsts = refl;
  each =
      All-cons (IsSent two_words) first_sent (second_sent ∷ []) (record { within = lit< tt; starts = refl; number = refl; last = first_ends })
      (All-cons (IsSent two_words) second_sent [] (record { within = lit< tt; starts = refl; number = refl; last = second_ends }) (All-nil _));
}

told_one : missing_lines (first_sent ∷ second_sent ∷ []) (missing_among two_sent (events channel_1 epochs) (first_sent ∷ second_sent ∷ [])) ≡ codes "missing channel=1 packet=0 first=224 last=226 span=1\n"
unfolding first_sent second_sent bits_of register_after fault_from bytes_of framed_at role_of digits
told_one = refl

-- ---- the outcome

two_bytes : HaveBytes two_entries
unfolding header_bytes record_head
two_bytes = (refl, (refl, (refl, tt)))

have_bytes : AreBytes two_files
have_bytes = files_of_bytes two_entries two_bytes

is_two : IsSourceOf two_reading.reading.plan two_reading.reading.inputs two_packets
unfolding channels_in_order
is_two = record { shape = record { burst_max = refl; burst_short = refl; burst_min = refl; group = refl; warmup = refl }; channels = refl; entries = refl; packets = refl; flow = refl; local = refl }

module _ (source : Source) (is : IsSourceOf two_reading.reading.plan two_reading.reading.inputs source) where
  source_is : source ≡ two_packets
  source_is = same_source two_reading.reading.plan two_reading.reading.inputs source two_packets is is_two

  words_are : (w : List Word) → IsBurstStream source w → w ≡ two_words
  words_are w stream = one_stream two_packets w two_words (subst (λ (x : Source). IsBurstStream x w) source_is stream) two_stream

an_outcome : (o : Outcome) × IsLinkedBy two_reading two_words o
an_outcome =
    let (o, (w, h)) = (lawful_link plan_name).some_made two_files have_bytes two_reading two_read in
    (o, subst (λ (x : List Word). IsLinkedBy two_reading x o) (words_are h.over.source h.over.is_source w h.over.is_stream) h)

abbrev two_to_send : List (ℕ × List ℕ)
two_to_send = (1, one_to_eight) ∷ (1, eight_more) ∷ []

module _ (o : Outcome) (h : IsLinkedBy two_reading two_words o) where
  none : h.counts ≡ no_accidents
  none = none_there two_to_send two_packets two_words two_stream refl o h none_counted

  its_epoch : (all : List Epoch) → AreReceived two_lanes (map bits_of_bytes h.over.lanes) all → all ≡ epochs
  its_epoch = one_epoch two_to_send two_packets two_words two_stream refl o h

  its_events : h.events ≡ events channel_1 epochs
  its_events = events_are two_to_send two_packets two_words two_stream refl o h

  sent_is : sent_on two_reading two_words h.over 1 ≡ both
  sent_is = ap (λ (x : Source). sent_packets_at (slot_place two_sent) x 1 two_words) (source_is h.over.source h.over.is_source) ∙ both_sent

  told : missing_lines h.sent (missing_among two_sent h.events h.sent) ≡ codes "missing channel=1 packet=0 first=224 last=226 span=1\n"
  told =
      ap₂ (λ (es : List Event) (ps : List SentPacket). missing_lines ps (missing_among two_sent es ps)) its_events (one_list two_words h.sent (first_sent ∷ second_sent ∷ []) h.are_sent are_sent)
      ∙ told_one

  -- ---- its files

  unmet : DeliversUnmet two_reading two_words h.over (content_of o.files)
  unmet = delivers two_files plan_name two_reading two_words o two_read h ((counts_blocks two_reading two_words o h).none.0 (ap (λ (c : Accidents). c.stretches) none))

  table : content_of o.files (spans_name (codes "o")) ≡ Some (span_table three_spans)
  table = lists_spans two_reading two_words o h ∙ ap (λ (es : List Epoch). Some (span_table (spans (items_of es)))) (its_epoch h.over.epochs h.over.are_epochs) ∙ ap (λ ss. Some (span_table ss)) spans_are

  capture : content_of o.files (capture_name (codes "o") 1) ≡ Some (capture_bytes 1 (eight_more ∷ []))
  capture =
      unmet 1 (subst (λ (x : Source). Contains x.channels 1) (sym (source_is h.over.source h.over.is_source)) (0, lit< tt, refl))
      ∙ ap₂ (λ (es : List Epoch) (ps : List Packet). Some (capture_bytes 1 (received.bytes_of (filter (meets_none (items_of es)) ps)))) (its_epoch h.over.epochs h.over.are_epochs) sent_is
      ∙ ap (λ (ps : List Packet). Some (capture_bytes 1 (received.bytes_of ps))) meets_one

pub one_of_two : OneOfTwoArrives
one_of_two =
    let (o, h) = an_outcome in
    record {
      bytes = have_bytes;
      read = two_read;
      outcome = o;
      linked = h;
      done = done_by h.over.source two_words o.status h.over.is_source.flow h.status;
      one_epoch = its_epoch o h;
      none = none o h;
      kept = lose_none two_to_send two_packets two_words two_stream refl o h;
      are = spans_are;
      table = table o h;
      sent = sent_is o h;
      meets = meets_one;
      arrives = ap (delivered 1) (its_events o h) ∙ one_comes;
      capture = capture o h;
      told = told o h;
    }

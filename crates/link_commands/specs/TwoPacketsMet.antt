-- The premises of the delivery theorem with damage are met by a plan of two packets on one channel, one after the other: the schedule
-- inverts the same bit of lane 1, by which the data word of the first packet has a damaged header. No accident is counted. The first
-- packet meets a fault span, and is lost; the second meets none, and arrives.
use Rattle.std.specs.Prelude.{ℕ, ◌≡◌, List, [], ◌∷◌, ◌++◌, map, filter, replicate, codes, Some, Ok}
use Rattle.std.specs.FinMap.{from_entries}
use Rattle.lk_base.specs.Checksum.{bits_of_bytes}
use Rattle.lk_base.specs.declared.word.Word.{Word}
use Rattle.lk_base.specs.declared.word.Word.TheVariants.{Data, Control}
use Rattle.lk_outside.specs.Files.{Files, AreBytes}
use Rattle.stream_model.specs.BurstStream.{Source}
use Rattle.stream_model.specs.StreamExamples.{idle}
use Rattle.receive_model.specs.Positions.{Epoch}
use Rattle.receive_model.specs.Stretches.{items_of}
use Rattle.receive_model.specs.Spans.{spans}
use Rattle.receive_model.specs.Pieces.{Packet}
use Rattle.receive_model.specs.Events.{delivered}
use Rattle.delivery_laws.specs.Law.{meets_none}
use Rattle.link_laws.specs.Accidents.{no_accidents}
use Rattle.link_laws.specs.PremisesMet.{behind_warmup, burst_word, end_word, two_lanes, wide_packet}
use Rattle.link_laws.specs.Received.{AreReceived}
use Rattle.link_reports.specs.Table.{span_table}
use Rattle.pcap_files.specs.Written.{capture_bytes}
use Rattle.run_shell.specs.declared.status.Status.TheVariants.{Done}
use Rattle.run_shell.specs.Outcome.{Outcome, content_of}
use Rattle.receipts.specs.Received.{spans_name}
use Rattle.pcap_files.specs.Names.{capture_name}
use Rattle.link_commands.specs.DamagedMet.{damaged_epoch_of, damaged_text, flipped_reading, three_spans}
use Rattle.link_commands.specs.Delivery.{LosesNoLock, sent_on}
use Rattle.link_commands.specs.Inputs.{LinkReading, linked_in}
use Rattle.link_commands.specs.Linked.{IsLinkedBy, missing_among, missing_lines, sent_over}
use Rattle.link_commands.specs.PremisesMet.{one_to_eight, plan_name, skewed_text}

-- ---- files

abbrev pub eight_more : List ℕ
eight_more = 100 ∷ 101 ∷ 102 ∷ 103 ∷ 104 ∷ 105 ∷ 106 ∷ 107 ∷ []

-- the capture of two packets of eight bytes
abbrev pub two_capture : List ℕ
two_capture = capture_bytes 1 (one_to_eight ∷ eight_more ∷ [])

-- the plan whose lanes are 31 bits apart, with this capture and the schedule that inverts one bit
abbrev pub two_entries : List (List ℕ × List ℕ)
two_entries = (plan_name, skewed_text) ∷ (codes "a", two_capture) ∷ (codes "s", damaged_text) ∷ []

abbrev pub two_files : Files
two_files = from_entries two_entries

abbrev pub two_reading : LinkReading
two_reading = flipped_reading ((1, one_to_eight) ∷ (1, eight_more) ∷ [])

-- ---- the stream

-- both packets on channel 1, after four groups of idles
abbrev pub two_packets : Source
two_packets = record behind_warmup { packets = (1, one_to_eight) ∷ (1, eight_more) ∷ [] }

-- the control word that has the end of the second
abbrev pub second_end : ℕ
second_end = 0x91ffff0000bd8071

-- The bursts stand at slots 224 and 229, five slots apart. The stream finishes at slot 231, in group 4, and one group follows.
abbrev pub two_words : List Word
two_words =
    replicate 224 idle
    ++ Control burst_word ∷ Data 0x0102030405060708 ∷ Control end_word ∷ idle ∷ idle
    ∷ Control burst_word ∷ Data 0x6465666768696a6b ∷ Control second_end ∷ replicate 104 idle

-- the second packet; the first stands where the one packet stands
abbrev pub second_packet : Packet
second_packet = record { bytes = eight_more; first = record { group = 9045; index = 5 }; last = record { group = 9045; index = 7 } }

abbrev pub two_epoch : Epoch
two_epoch = damaged_epoch_of two_words

-- ---- what they come to

pub record OneOfTwoArrives : Type 0 where
  -- the plan in these files is read so, and comes to an outcome over the stream of its two packets
  pub bytes : AreBytes two_files
  pub read : linked_in two_files plan_name ≡ Ok two_reading
  pub outcome : Outcome
  pub linked : IsLinkedBy two_reading two_words outcome
  pub done : outcome.status ≡ Done
  -- the bits of the written lanes show this epoch, and no other
  pub one_epoch : (epochs : List Epoch) → AreReceived two_lanes (map bits_of_bytes linked.over.lanes) epochs → epochs ≡ two_epoch ∷ []
  -- no accident is counted, and no declared lock was lost
  pub none : linked.counts ≡ no_accidents
  pub kept : LosesNoLock linked.reports
  pub are : spans (items_of (two_epoch ∷ [])) ≡ three_spans
  pub table : content_of outcome.files (spans_name (codes "o")) ≡ Some (span_table three_spans)
  -- both packets are sent, and the second alone meets no span
  pub sent : sent_on two_reading two_words linked.over 1 ≡ wide_packet ∷ second_packet ∷ []
  pub meets : filter (meets_none (items_of (two_epoch ∷ []))) (wide_packet ∷ second_packet ∷ []) ≡ second_packet ∷ []
  -- it arrives alone, and the first is reported as missing
  pub arrives : delivered 1 linked.events ≡ second_packet ∷ []
  pub capture : content_of outcome.files (capture_name (codes "o") 1) ≡ Some (capture_bytes 1 (eight_more ∷ []))
  pub told : missing_lines linked.sent (missing_among (sent_over two_reading two_words) linked.events linked.sent) ≡ codes "missing channel=1 packet=0 first=224 last=226 span=1\n"

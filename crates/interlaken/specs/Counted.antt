-- The delivery theorem by the accidents: what the clauses of `run` come to together, of the files that are there after.
use Rattle.std.specs.Prelude.{◌≡◌, ℕ, true, List, map, filter, length, Contains, Option, Some, Ok}
use Rattle.std.specs.List.{list_all}
use Rattle.lk_base.specs.Checksum.{bits_of_bytes}
use Rattle.lk_base.specs.declared.word.Word.{Word}
use Rattle.lane_model.specs.Damage.{IsWithinDepth}
use Rattle.lk_outside.specs.Files.{Files, Told, file}
use Rattle.stream_model.specs.BurstStream.{Source, IsBurstStream}
use Rattle.receive_model.specs.Pieces.{Packet}
use Rattle.receive_model.specs.Positions.{Epoch}
use Rattle.receive_model.specs.Spans.{spans}
use Rattle.receive_model.specs.Stretches.{items_of}
use Rattle.report_model.specs.declared.counts.Accidents.{Accidents}
use Rattle.delivery_laws.specs.Law.{meets_none}
use Rattle.delivery_laws.specs.SentPackets.{sent_packets_at}
use Rattle.link_laws.specs.Accidents.{AreAccidents, no_accidents, slot_place}
use Rattle.link_laws.specs.Received.{AreReceived}
use Rattle.link_reports.specs.Table.{span_table}
use Rattle.pcap_files.specs.Names.{capture_name}
use Rattle.pcap_files.specs.Written.{capture_bytes}
use Rattle.plan_inputs.specs.Sources.{IsSourceOf}
use Rattle.receipts.specs.Received.{bytes_of, spans_name}
use Rattle.run_shell.specs.declared.status.Status.{Status}
use Rattle.run_shell.specs.Outcome.{IsAnswer}
use Rattle.stream_commands.specs.Off.{NoBurstWhenOff}
use Rattle.link_commands.specs.Inputs.{LinkReading, linked_in}
use Rattle.link_commands.specs.Linked.{AreReceivedFiles, sent_over}
use Rattle.link_commands.specs.Delivery.{AllUndamaged}
use Rattle.interlaken.specs.declared.request.Request.TheVariants.{Link}
use Rattle.interlaken.specs.Request.{request_of}
use Rattle.interlaken.specs.Delivery.{AreWritten}

-- What is sent and received where this is their stream: it is that of the plan's packets, these are the files of the received bits
-- of its lanes, and these the accidents on them.
pub record IsCountedBy (i : LinkReading) (stream : List Word) : Type 0 where
  pub source : Source
  pub is_source : IsSourceOf i.reading.plan i.reading.inputs source
  pub is_stream : IsBurstStream source stream
  pub lanes : List (List ℕ)
  pub are_lanes : AreReceivedFiles i.reading.plan.settings i.schedule stream lanes
  pub counts : Accidents
  pub are_counts : AreAccidents (sent_over i stream) (map bits_of_bytes lanes) counts

-- A stream is sent and received. Whichever it is and in whatever way, its lanes are the lane files that are there after, and this is
-- said of it with the files that are there after.
pub record CountedSay (Says : (i : LinkReading) → (stream : List Word) → IsCountedBy i stream → (List ℕ → Option (List ℕ)) → Type 0) (i : LinkReading) (old new : Option Files) : Type 0 where
  pub some : (stream : List Word) × IsCountedBy i stream
  pub each : (stream : List Word) (h : IsCountedBy i stream) → Told old new (λ before after. AreWritten i h.lanes (file after) × Says i stream h (file after))

-- what is said of what was sent, of a run of `link` with a valid plan, whose inputs and schedule are accepted, that came to an answer
abbrev pub OfCounted : ((i : LinkReading) → (stream : List Word) → IsCountedBy i stream → (List ℕ → Option (List ℕ)) → Type 0) → List (List ℕ) → Files → Status → Option Files → Option Files → Type 0
OfCounted Says words files status old new = (name : List ℕ) (i : LinkReading) → request_of words ≡ Some (Link name) → linked_in files name ≡ Ok i → IsAnswer status → CountedSay Says i old new

-- the sent packets of a channel
abbrev pub packets_sent : (i : LinkReading) (stream : List Word) → IsCountedBy i stream → ℕ → List Packet
packets_sent i stream h channel = sent_packets_at (slot_place (sent_over i stream)) h.source channel stream

-- The received bits of the lanes show these epochs. The span table lists exactly their fault spans, and the file of each listed
-- channel is exactly the capture of the sent packets that meet none of them, in order.
pub record CountedUnmet (i : LinkReading) (stream : List Word) (h : IsCountedBy i stream) (file_of : List ℕ → Option (List ℕ)) : Type 0 where
  pub epochs : List Epoch
  pub are : AreReceived i.reading.plan.settings (map bits_of_bytes h.lanes) epochs
  pub table : file_of (spans_name i.reading.plan.out) ≡ Some (span_table (spans (items_of epochs)))
  pub captures : (channel : ℕ) → Contains h.source.channels channel →
      file_of (capture_name i.reading.plan.out channel)
      ≡ Some (capture_bytes i.reading.plan.link_type (bytes_of (filter (meets_none (items_of epochs)) (packets_sent i stream h channel))))

-- No accident was counted, there are two fault spans, and no sent packet meets one: the file of each listed channel is exactly the
-- capture of all sent packets, in order.
pub record CountedAll (i : LinkReading) (stream : List Word) (h : IsCountedBy i stream) (file_of : List ℕ → Option (List ℕ)) : Type 0 where
  pub none : h.counts ≡ no_accidents
  pub unmet : CountedUnmet i stream h file_of
  pub two : length (spans (items_of unmet.epochs)) ≡ 2
  pub meet_none : (channel : ℕ) → list_all (meets_none (items_of unmet.epochs)) (packets_sent i stream h channel) ≡ true
  pub captures : (channel : ℕ) → Contains h.source.channels channel →
      file_of (capture_name i.reading.plan.out channel) ≡ Some (capture_bytes i.reading.plan.link_type (bytes_of (packets_sent i stream h channel)))

-- where of the accidents `stretches` is 0
abbrev pub CountedDeliver : List (List ℕ) → Files → Status → Option Files → Option Files → Type 0
CountedDeliver = OfCounted (λ i stream h file_of. h.counts.stretches ≡ 0 → CountedUnmet i stream h file_of)

-- with no bit damaged and the skews within the deskew depth
abbrev pub CountedDeliverClean : List (List ℕ) → Files → Status → Option Files → Option Files → Type 0
CountedDeliverClean = OfCounted (λ i stream h file_of. AllUndamaged i.reading.plan.settings i.schedule stream → IsWithinDepth i.reading.plan.settings i.schedule.skews → CountedAll i stream h file_of)

-- no burst starts on a channel whose last valid calendar entry is off
abbrev pub CountedWhenOn : List (List ℕ) → Files → Status → Option Files → Option Files → Type 0
CountedWhenOn = OfCounted (λ i stream h file_of. NoBurstWhenOff i.reading.plan.entries i.reading.inputs.flow stream)

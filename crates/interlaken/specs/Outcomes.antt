-- The delivery theorem of the outcome that was answered: what the clauses of `run` come to together.
use Rattle.std.specs.Prelude.{◌≡◌, ℕ, true, List, map, filter, length, Contains, Option, Some, Ok, IfSome}
use Rattle.std.specs.List.{list_all}
use Rattle.lk_base.specs.Checksum.{bits_of_bytes}
use Rattle.lk_base.specs.declared.word.Word.{Word}
use Rattle.lane_model.specs.Damage.{IsWithinDepth}
use Rattle.receive_model.specs.Positions.{Epoch}
use Rattle.receive_model.specs.Spans.{spans}
use Rattle.receive_model.specs.Stretches.{items_of}
use Rattle.delivery_laws.specs.Law.{meets_none}
use Rattle.link_laws.specs.Accidents.{no_accidents}
use Rattle.link_laws.specs.Received.{AreReceived}
use Rattle.link_reports.specs.Table.{span_table}
use Rattle.pcap_files.specs.Names.{capture_name}
use Rattle.pcap_files.specs.Written.{capture_bytes}
use Rattle.receipts.specs.Received.{bytes_of, spans_name}
use Rattle.lk_outside.specs.Files.{Files, Told}
use Rattle.run_shell.specs.declared.status.Status.{Status}
use Rattle.run_shell.specs.Outcome.{Outcome, IsAnswer, Holds, content_of}
use Rattle.run_shell.specs.Run.{Found, Settles}
use Rattle.stream_commands.specs.Off.{NoBurstWhenOff}
use Rattle.link_commands.specs.Inputs.{LinkReading, linked_in}
use Rattle.link_commands.specs.Linked.{IsLinkedBy}
use Rattle.link_commands.specs.Delivery.{AllUndamaged, sent_on}
use Rattle.interlaken.specs.declared.request.Request.TheVariants.{Link}
use Rattle.interlaken.specs.Request.{request_of}
use Rattle.interlaken.specs.Run.{OutcomeOf}
use Rattle.interlaken.specs.Answered.{IsAnswered}

-- ---- what is said of outcomes

-- the outcome that was answered, whose files stand, and the stream that was sent
pub record IsLinkRun (words : List (List ℕ)) (files : Files) (i : LinkReading) (its_status : Status) (old new : Option Files) : Type 0 where
  pub outcome : Outcome
  pub is_outcome : OutcomeOf words files outcome
  pub status : its_status ≡ outcome.status
  pub stands : Told old new (Holds outcome.files)
  pub stream : List Word
  pub linked : IsLinkedBy i stream outcome

-- There is an outcome that was answered, with the stream that was sent. Each outcome of the words was answered, and whatever stream
-- it comes of and in whatever way, this is said of it.
pub record OutcomesSay (Says : (i : LinkReading) → (stream : List Word) → (o : Outcome) → IsLinkedBy i stream o → Type 0) (words : List (List ℕ)) (files : Files) (i : LinkReading) (its_status : Status) (old new : Option Files) : Type 0 where
  pub run : IsLinkRun words files i its_status old new
  pub answered : (o : Outcome) → OutcomeOf words files o → IsAnswered o its_status old new
  pub each : (o : Outcome) → OutcomeOf words files o → (stream : List Word) (h : IsLinkedBy i stream o) → Says i stream o h

-- what is said of a run of `link` with a valid plan, whose inputs and schedule are accepted, that came to an answer
abbrev pub OfOutcomes : ((i : LinkReading) → (stream : List Word) → (o : Outcome) → IsLinkedBy i stream o → Type 0) → List (List ℕ) → Files → Status → Option Files → Option Files → Type 0
OfOutcomes Says words files status old new = (name : List ℕ) (i : LinkReading) → request_of words ≡ Some (Link name) → linked_in files name ≡ Ok i → IsAnswer status → OutcomesSay Says words files i status old new

-- ---- delivery

-- The bits of the written lanes show these epochs. The outcome's span table lists exactly their fault spans, and its file of each
-- channel of the receiver is exactly the capture of the sent packets that meet none of them, in order.
pub record OutcomeUnmet (i : LinkReading) (stream : List Word) (o : Outcome) (h : IsLinkedBy i stream o) : Type 0 where
  pub epochs : List Epoch
  pub are : AreReceived i.reading.plan.settings (map bits_of_bytes h.over.lanes) epochs
  pub table : content_of o.files (spans_name i.reading.plan.out) ≡ Some (span_table (spans (items_of epochs)))
  pub captures : (channel : ℕ) → Contains h.setting.channels channel →
      content_of o.files (capture_name i.reading.plan.out channel)
      ≡ Some (capture_bytes i.reading.plan.link_type (bytes_of (filter (meets_none (items_of epochs)) (sent_on i stream h.over channel))))

-- No accident was counted, there are two fault spans, and no sent packet meets one: the outcome's file of each channel of the
-- receiver is exactly the capture of all sent packets, in order.
pub record OutcomeAll (i : LinkReading) (stream : List Word) (o : Outcome) (h : IsLinkedBy i stream o) : Type 0 where
  pub none : h.counts ≡ no_accidents
  pub unmet : OutcomeUnmet i stream o h
  pub two : length (spans (items_of unmet.epochs)) ≡ 2
  pub meet_none : (channel : ℕ) → list_all (meets_none (items_of unmet.epochs)) (sent_on i stream h.over channel) ≡ true
  pub captures : (channel : ℕ) → Contains h.setting.channels channel →
      content_of o.files (capture_name i.reading.plan.out channel) ≡ Some (capture_bytes i.reading.plan.link_type (bytes_of (sent_on i stream h.over channel)))

-- where of the accidents `stretches` is 0
abbrev pub OutcomesDeliver : List (List ℕ) → Files → Status → Option Files → Option Files → Type 0
OutcomesDeliver = OfOutcomes (λ i stream o h. h.counts.stretches ≡ 0 → OutcomeUnmet i stream o h)

-- with no bit damaged and the skews within the deskew depth
abbrev pub OutcomesDeliverClean : List (List ℕ) → Files → Status → Option Files → Option Files → Type 0
OutcomesDeliverClean = OfOutcomes (λ i stream o h. AllUndamaged i.reading.plan.settings i.schedule stream → IsWithinDepth i.reading.plan.settings i.schedule.skews → OutcomeAll i stream o h)

-- no burst starts on a channel whose last valid calendar entry is off
abbrev pub OutcomesWhenOn : List (List ℕ) → Files → Status → Option Files → Option Files → Type 0
OutcomesWhenOn = OfOutcomes (λ i stream o h. NoBurstWhenOff i.reading.plan.entries i.reading.inputs.flow stream)

-- ---- the clauses of `run`

-- the clauses `found` and `settled` of a run with these words, this status and these files give this
abbrev pub FollowsFromOutcomes : (List (List ℕ) → Files → Status → Option Files → Option Files → Type 0) → Type 0
FollowsFromOutcomes Says = (words : List (List ℕ)) (status : Status) (old new : Option Files) →
    IfSome old (λ files. IsAnswer status → Found (OutcomeOf words files) status) →
    IfSome old (λ files. (o : Outcome) → OutcomeOf words files o → Settles o status old new) →
    IfSome old (λ files. Says words files status old new)

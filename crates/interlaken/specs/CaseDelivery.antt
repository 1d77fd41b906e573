-- The delivery theorem, of a run of `generate`.
use Rattle.std.specs.Prelude.{◌≡◌, ℕ, List, Option, Some}
use Rattle.lk_base.specs.declared.word.Word.{Word}
use Rattle.lane_model.specs.Damage.{IsWithinDepth}
use Rattle.lk_outside.specs.Files.{Files}
use Rattle.run_shell.specs.declared.status.Status.{Status}
use Rattle.run_shell.specs.Outcome.{Outcome, IsAnswer, content_of}
use Rattle.stream_commands.specs.Off.{NoBurstWhenOff}
use Rattle.link_commands.specs.Linked.{IsLinked, IsLinkedBy}
use Rattle.link_laws.specs.Accidents.{no_accidents}
use Rattle.link_commands.specs.Delivery.{AllUndamaged, CountsBlocks, DeliversAll, DeliversUnmet, ListsSpans, LosesNoLock, NarrowSpans, PassingAreSenders, SendsAll, TellsMissing}
use Rattle.case_commands.specs.Asked.{Asked}
use Rattle.case_commands.specs.Generate.{reading_for, behind_case}
use Rattle.interlaken.specs.declared.request.Request.TheVariants.{Generate}
use Rattle.interlaken.specs.Request.{request_of}
use Rattle.interlaken.specs.Answered.{IsAnswered}
use Rattle.interlaken.specs.CleanLocks.{ShowOwnLocks}

-- The case's link comes to an outcome. Whichever it is, of whatever stream and in whatever way, the outcome behind the files of the
-- case was answered, and this is said of the link.
pub record CasesSay (Says : (a : Asked) → (stream : List Word) → (o : Outcome) → IsLinkedBy (reading_for a) stream o → Type 0) (a : Asked) (its_status : Status) (old new : Option Files) : Type 0 where
  pub some : (linked : Outcome) × IsLinked (reading_for a) linked
  pub each : (linked : Outcome) (stream : List Word) (h : IsLinkedBy (reading_for a) stream linked) → IsAnswered (behind_case a linked) its_status old new × Says a stream linked h

-- what is said of a run of `generate` that came to an answer
abbrev pub OfCases : ((a : Asked) → (stream : List Word) → (o : Outcome) → IsLinkedBy (reading_for a) stream o → Type 0) → List (List ℕ) → Files → Status → Option Files → Option Files → Type 0
OfCases Says words files status old new = (a : Asked) → request_of words ≡ Some (Generate a) → IsAnswer status → CasesSay Says a status old new

-- Where each CRC24 block that passed at the receiver is the sender's, the file of each channel is exactly the capture of the sent
-- packets, in order, whose word positions meet no fault span that the received lane bits show.
abbrev pub CasesDeliver : List (List ℕ) → Files → Status → Option Files → Option Files → Type 0
CasesDeliver = OfCases (λ a stream o h. PassingAreSenders (reading_for a) stream h.over → DeliversUnmet (reading_for a) stream h.over (content_of o.files))

-- With no bit damaged and the skews within the deskew depth, each of those blocks is the sender's and no span meets a packet.
abbrev pub CasesDeliverClean : List (List ℕ) → Files → Status → Option Files → Option Files → Type 0
CasesDeliverClean = OfCases (λ a stream o h. AllUndamaged (reading_for a).reading.plan.settings (reading_for a).schedule stream → IsWithinDepth (reading_for a).reading.plan.settings (reading_for a).schedule.skews → DeliversAll (reading_for a) stream h.over (content_of o.files))

-- The span table lists exactly the fault spans that the received lane bits show.
abbrev pub CasesListSpans : List (List ℕ) → Files → Status → Option Files → Option Files → Type 0
CasesListSpans = OfCases (λ a stream o h. ListsSpans (reading_for a) stream h.over (content_of o.files))

-- The printed count of `stretches` is that of the blocks that passed and are not the sender's, so it is 0 exactly if each is.
abbrev pub CasesCountBlocks : List (List ℕ) → Files → Status → Option Files → Option Files → Type 0
CasesCountBlocks = OfCases (λ a stream o h. CountsBlocks (reading_for a) stream o h)

-- With no bit damaged and the skews within the deskew depth, no accident is counted.
abbrev pub CasesCountNone : List (List ℕ) → Files → Status → Option Files → Option Files → Type 0
CasesCountNone = OfCases (λ a stream o h. AllUndamaged (reading_for a).reading.plan.settings (reading_for a).schedule stream → IsWithinDepth (reading_for a).reading.plan.settings (reading_for a).schedule.skews → h.counts ≡ no_accidents)

-- With no bit damaged and the skews within the deskew depth, the report of each lane has one lock, declared at the sender's Sync number
-- 3 and never lost.
abbrev pub CasesLock : List (List ℕ) → Files → Status → Option Files → Option Files → Type 0
CasesLock = OfCases (λ a stream o h. AllUndamaged (reading_for a).reading.plan.settings (reading_for a).schedule stream → IsWithinDepth (reading_for a).reading.plan.settings (reading_for a).schedule.skews → ShowOwnLocks (reading_for a).reading.plan.settings (reading_for a).schedule.skews h.reports)

-- The sent packets of each channel are all packets of its capture, in order.
abbrev pub CasesSendAll : List (List ℕ) → Files → Status → Option Files → Option Files → Type 0
CasesSendAll = OfCases (λ a stream o h. SendsAll (reading_for a) stream o h)

-- Where `groups` and `stretches` are 0 and no declared lock was lost, each fault span that has both ends holds a damaged word
-- strictly between them. And where two control words or more after the last of those were received as they were sent, the span
-- does not end after the second of them.
abbrev pub CaseSpansAreNarrow : List (List ℕ) → Files → Status → Option Files → Option Files → Type 0
CaseSpansAreNarrow = OfCases (λ a stream o h. h.counts.groups ≡ 0 → h.counts.stretches ≡ 0 → LosesNoLock h.reports → NarrowSpans (reading_for a) stream o h)

-- The text lists the sent packets that did not come, in the order of their SOP words, and no other; where `stretches` is 0, these
-- are the sent packets that meet a fault span, each listed with the first.
abbrev pub CaseMissingAreTold : List (List ℕ) → Files → Status → Option Files → Option Files → Type 0
CaseMissingAreTold = OfCases (λ a stream o h. TellsMissing (reading_for a) stream o h)

-- No burst starts on a channel whose last valid calendar entry is off.
abbrev pub CasesWhenOn : List (List ℕ) → Files → Status → Option Files → Option Files → Type 0
CasesWhenOn = OfCases (λ a stream o h. NoBurstWhenOff (reading_for a).reading.plan.entries (reading_for a).reading.inputs.flow stream)

-- The delivery theorem, of a run of `link`.
use Rattle.std.specs.Prelude.{◌≡◌, ◌⊎◌, ◌<◌, ℕ, List, [], ◌∷◌, Option, Some, Ok, codes, get_or}
use Rattle.lk_base.specs.declared.word.Word.{Word}
use Rattle.lane_model.specs.Damage.{IsWithinDepth}
use Rattle.lk_outside.specs.Files.{Files, Told, file}
use Rattle.run_shell.specs.declared.status.Status.{Status}
use Rattle.run_shell.specs.declared.status.Status.TheVariants.{Done, Held}
use Rattle.run_shell.specs.Names.{lane_name}
use Rattle.run_shell.specs.Outcome.{Outcome, IsAnswer}
use Rattle.stream_commands.specs.Off.{NoBurstWhenOff}
use Rattle.link_commands.specs.Inputs.{LinkReading, linked_in}
use Rattle.link_commands.specs.Linked.{IsLinked, IsLinkedBy, IsSentBy}
use Rattle.link_laws.specs.Accidents.{no_accidents}
use Rattle.link_commands.specs.Delivery.{AllUndamaged, CountsBlocks, DeliversAll, DeliversUnmet, LacksAPacket, ListsSpans, LosesNoLock, NarrowSpans, PassingAreSenders, SendsAll, TellsMissing}
use Rattle.interlaken.specs.declared.request.Request.TheVariants.{Link}
use Rattle.interlaken.specs.Request.{request_of}
use Rattle.interlaken.specs.Answered.{IsAnswered}
use Rattle.interlaken.specs.CleanLocks.{ShowOwnLocks}

-- the lane files that are there are these
abbrev pub AreWritten : LinkReading → List (List ℕ) → (List ℕ → Option (List ℕ)) → Type 0
AreWritten i lanes file_of = (k : ℕ) → k < i.reading.plan.settings.lanes → file_of (lane_name i.reading.plan.out k) ≡ Some (get_or lanes k [])

-- A stream is sent and received. Whichever it is and in whatever way, its lanes are the lane files that are there after, and this is
-- said of it with the files that are there after.
pub record SentSay (Says : (i : LinkReading) → (stream : List Word) → IsSentBy i stream → (List ℕ → Option (List ℕ)) → Type 0) (i : LinkReading) (old new : Option Files) : Type 0 where
  pub some : (stream : List Word) × IsSentBy i stream
  pub each : (stream : List Word) (h : IsSentBy i stream) → Told old new (λ before after. AreWritten i h.lanes (file after) × Says i stream h (file after))

-- what is said of what was sent, of a run of `link` with a valid plan, whose inputs and schedule are accepted, that is done or held
abbrev pub OfSent : ((i : LinkReading) → (stream : List Word) → IsSentBy i stream → (List ℕ → Option (List ℕ)) → Type 0) → List (List ℕ) → Files → Status → Option Files → Option Files → Type 0
OfSent Says words files status old new = (name : List ℕ) (i : LinkReading) → words ≡ codes "link" ∷ name ∷ [] → linked_in files name ≡ Ok i → (status ≡ Done) ⊎ (status ≡ Held) → SentSay Says i old new

-- The inputs come to an outcome. Each outcome to which they come, of whatever stream and in whatever way, was answered, and this is
-- said of it.
pub record LinksSay (Says : (i : LinkReading) → (stream : List Word) → (o : Outcome) → IsLinkedBy i stream o → Type 0) (i : LinkReading) (its_status : Status) (old new : Option Files) : Type 0 where
  pub some : (o : Outcome) × IsLinked i o
  pub each : (o : Outcome) (stream : List Word) (h : IsLinkedBy i stream o) → IsAnswered o its_status old new × Says i stream o h

-- what is said of a run of `link` with a valid plan, whose inputs and schedule are accepted, that came to an answer
abbrev pub OfLinks : ((i : LinkReading) → (stream : List Word) → (o : Outcome) → IsLinkedBy i stream o → Type 0) → List (List ℕ) → Files → Status → Option Files → Option Files → Type 0
OfLinks Says words files status old new = (name : List ℕ) (i : LinkReading) → request_of words ≡ Some (Link name) → linked_in files name ≡ Ok i → IsAnswer status → LinksSay Says i status old new

-- Where each CRC24 block that passed at the receiver is the sender's, the file of each listed channel is exactly the capture of the
-- sent packets, in order, whose word positions meet no fault span that the received lane bits show.
abbrev pub Delivers : List (List ℕ) → Files → Status → Option Files → Option Files → Type 0
Delivers = OfSent (λ i stream h file_of. PassingAreSenders i stream h → DeliversUnmet i stream h file_of)

-- With no bit damaged and the skews within the deskew depth, each of those blocks is the sender's and no span meets a packet.
abbrev pub DeliversClean : List (List ℕ) → Files → Status → Option Files → Option Files → Type 0
DeliversClean = OfSent (λ i stream h file_of. AllUndamaged i.reading.plan.settings i.schedule stream → IsWithinDepth i.reading.plan.settings i.schedule.skews → DeliversAll i stream h file_of)

-- The span table lists exactly the fault spans that the received lane bits show.
abbrev pub ListsAllSpans : List (List ℕ) → Files → Status → Option Files → Option Files → Type 0
ListsAllSpans = OfSent ListsSpans

-- The printed count of `stretches` is that of the blocks that passed and are not the sender's, so it is 0 exactly if each is.
abbrev pub CountsAllBlocks : List (List ℕ) → Files → Status → Option Files → Option Files → Type 0
CountsAllBlocks = OfLinks CountsBlocks

-- With no bit damaged and the skews within the deskew depth, no accident is counted.
abbrev pub CountsNone : List (List ℕ) → Files → Status → Option Files → Option Files → Type 0
CountsNone = OfLinks (λ i stream o h. AllUndamaged i.reading.plan.settings i.schedule stream → IsWithinDepth i.reading.plan.settings i.schedule.skews → h.counts ≡ no_accidents)

-- With no bit damaged and the skews within the deskew depth, the report of each lane has one lock, declared at the sender's Sync number
-- 3 and never lost.
abbrev pub LinksLock : List (List ℕ) → Files → Status → Option Files → Option Files → Type 0
LinksLock = OfLinks (λ i stream o h. AllUndamaged i.reading.plan.settings i.schedule stream → IsWithinDepth i.reading.plan.settings i.schedule.skews → ShowOwnLocks i.reading.plan.settings i.schedule.skews h.reports)

-- With the status `Done` the sent packets of each channel are all packets of its captures, in order.
abbrev pub SendsAllPackets : List (List ℕ) → Files → Status → Option Files → Option Files → Type 0
SendsAllPackets words files status old new = OfLinks (λ i stream o h. status ≡ Done → SendsAll i stream o h) words files status old new

-- With the status `Held` the last line of the outcome's text names the least channel with bytes left at the finish, and of this one
-- fewer packets are sent than its capture has.
abbrev pub HeldLacksAPacket : List (List ℕ) → Files → Status → Option Files → Option Files → Type 0
HeldLacksAPacket words files status old new = OfLinks (λ i stream o h. status ≡ Held → LacksAPacket i stream o h) words files status old new

-- Where `groups` and `stretches` are 0 and no declared lock was lost, each fault span that has both ends holds a damaged word
-- strictly between them. And where two control words or more after the last of those were received as they were sent, the span
-- does not end after the second of them.
abbrev pub SpansAreNarrow : List (List ℕ) → Files → Status → Option Files → Option Files → Type 0
SpansAreNarrow words files status old new = OfLinks (λ i stream o h. h.counts.groups ≡ 0 → h.counts.stretches ≡ 0 → LosesNoLock h.reports → NarrowSpans i stream o h) words files status old new

-- The text lists the sent packets that did not come, in the order of their SOP words, and no other; where `stretches` is 0, these
-- are the sent packets that meet a fault span, each listed with the first.
abbrev pub MissingAreTold : List (List ℕ) → Files → Status → Option Files → Option Files → Type 0
MissingAreTold words files status old new = OfLinks TellsMissing words files status old new

-- No burst starts on a channel whose last valid calendar entry is off.
abbrev pub LinksWhenOn : List (List ℕ) → Files → Status → Option Files → Option Files → Type 0
LinksWhenOn = OfSent (λ i stream h file_of. NoBurstWhenOff i.reading.plan.entries i.reading.inputs.flow stream)

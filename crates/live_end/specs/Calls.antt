-- What the calls on a live transmitter do.
use Rattle.std.specs.Prelude.{ℕ, ◌≡◌, ◌⊎◌, ◌+◌, ◌*◌, ◌/◌, ◌<◌, ◌≤◌, Bool, true, false, not, List, ◌++◌, length, min, take, drop, Contains, MatchOption, Option, Some, None, is_some, Result, Ok, Err}
use Rattle.lk_base.specs.declared.word.Word.{Word}
use Rattle.live_stream.specs.LiveStream.{Given, IsWholeLiveStream}
use Rattle.live_stream.specs.Gives.{AreCountsOf, left_in_all, local_refusal_of, most_words, refusal_of}
use Rattle.live_stream.specs.declared.counts.Counts.{Counts}
use Rattle.live_stream.specs.declared.refused.Closed.{Closed}
use Rattle.live_stream.specs.declared.refused.LocalRefused.{LocalRefused}
use Rattle.live_stream.specs.declared.refused.Refused.{Refused}
use Rattle.live_stream.specs.declared.refused.Refused.TheVariants as refused
use Rattle.live_lanes.specs.Lanes.{has_room, waiting_on}
use Rattle.live_end.specs.States.{State}
use Rattle.live_end.specs.Sending.{IsOver, Sends, Sent, with_close, with_columns, with_flow, with_local, with_packet, with_packets_closed, with_taken}
use Rattle.live_end.specs.declared.status.Status.{Status}

-- ---- what is given

-- the lanes stay as they are: what waits on each, and whether they have ended
abbrev pub AreLanesKept : State → State → Type 0
AreLanesKept t u = u.lanes ≡ t.lanes

-- a packet is taken; or it is refused so, or memory ran out, and nothing has changed
abbrev pub IsPacket : State → State → ℕ → List ℕ → Result (Unit {0}) Refused → Type 0
IsPacket t u channel bytes (Ok done) = AreLanesKept t u × ((x : Sent) → Sends t x → (refusal_of x.given channel bytes ≡ None) × Sends u (with_packet channel bytes x))
IsPacket t u channel bytes (Err why) = AreLanesKept t u × ((x : Sent) → Sends t x →
    ((refusal_of x.given channel bytes ≡ Some why) ⊎ ((refusal_of x.given channel bytes ≡ None) × (why ≡ refused.OutOfMemory))) × Sends u x)

-- a flow row is taken; or the transmitter was closed, and nothing has changed
abbrev pub IsFlow : State → State → ℕ → Result (Unit {0}) Closed → Type 0
IsFlow t u word (Ok done) = AreLanesKept t u × ((x : Sent) → Sends t x → (x.given.closed ≡ None) × Sends u (with_flow word x))
IsFlow t u word (Err why) = AreLanesKept t u × ((x : Sent) → Sends t x → (is_some x.given.closed ≡ true) × Sends u x)

-- a state of this end's own is taken; or it is refused so, and nothing has changed
abbrev pub IsLocal : State → State → ℕ → Bool → Result (Unit {0}) LocalRefused → Type 0
IsLocal t u channel on (Ok done) = AreLanesKept t u × ((x : Sent) → Sends t x → (local_refusal_of x.given channel ≡ None) × Sends u (with_local channel on x))
IsLocal t u channel on (Err why) = AreLanesKept t u × ((x : Sent) → Sends t x → (local_refusal_of x.given channel ≡ Some why) × Sends u x)

-- no packet is taken from now on
abbrev pub IsPacketsClose : State → State → Type 0
IsPacketsClose t u = AreLanesKept t u × ((x : Sent) → Sends t x → Sends u (with_packets_closed x))

-- nothing is taken from now on
abbrev pub IsClose : State → State → Type 0
IsClose t u = AreLanesKept t u × ((x : Sent) → Sends t x → Sends u (with_close x))

-- ---- what is told

-- the counts of a listed channel: what was given to it, and what its bursts carry whose words were made; of another channel none
abbrev pub AreCounted : State → ℕ → Option Counts → Type 0
AreCounted t channel result =
    (x : Sent) → Sends t x → MatchOption result (Contains x.given.channels channel → ⊥) (λ counts. Contains x.given.channels channel × AreCountsOf counts x.given x.words channel)

-- so many payload words were made: what is given counts from the word of this number on
abbrev pub AreMade : State → ℕ → Type 0
AreMade t n = (x : Sent) → Sends t x → n ≡ length x.words

-- the state of a lane of a transmitter, and what is left to send
pub record IsStatus (t : State) (lane : ℕ) (status : Status) : Type 0 where
  -- the bytes of the lane that were made and not taken
  pub waiting : status.waiting ≡ length (waiting_on lane t.lanes)
  -- they fit into its ring
  pub few : status.waiting ≤ 4096
  -- the lanes have ended: no byte more is made
  pub ended : status.ended ≡ t.lanes.ended
  -- the ring of some lane has no room, so that no word is made
  pub held : status.held ≡ not (has_room t.lanes)
  -- the packets given whose last burst was not sent
  pub left : (x : Sent) → Sends t x → status.left ≡ left_in_all x.given x.words

-- a lane that is there has a status, and no other has
abbrev pub IsStatusOf : State → ℕ → Option Status → Type 0
IsStatusOf t lane result = MatchOption result (length t.lanes.lanes ≤ lane) (λ status. (lane < length t.lanes.lanes) × IsStatus t lane status)

-- ---- what is made

-- so many words of a payload stream are not its last, and are below the most
abbrev pub GoesOn : ℕ → Given → List Word → Type 0
GoesOn n g w = (more : List Word) → length more < n → IsOver g (w ++ more) → ⊥

-- each lane made a word more, of these payload words or of none
abbrev pub MakesRow : State → State → Type 0
MakesRow t u = (x : Sent) → Sends t x → (words : List Word) × Sends u (with_columns 1 words x)

-- So many bytes of a lane are more than those that wait. The words so far, of 67 bits each, complete fewer bytes than were taken of it and
-- these together.
abbrev pub AreMore : Sent → ℕ → ℕ → ℕ → Type 0
AreMore x columns lane count = 67 * columns / 8 < length (x.taken lane) + count

-- Each lane has room for a word more, of 9 bytes at most: of the bytes that the words so far complete, 4,087 at most were not taken.
abbrev pub HaveRoom : Sent → ℕ → Type 0
HaveRoom x columns = (i : ℕ) → i < x.settings.lanes → 67 * columns / 8 + 9 ≤ length (x.taken i) + 4096

-- each lane made words more: before each of them so many bytes of this lane wanted it, and each lane had room
abbrev pub MakesWords : ℕ → ℕ → State → State → Type 0
MakesWords lane count t u =
    (x : Sent) → Sends t x → (n : ℕ) × (words : List Word) × ((k : ℕ) → k < n → AreMore x (x.columns + k) lane count × HaveRoom x (x.columns + k)) × Sends u (with_columns n words x)

-- No word is made: the lanes have ended, or a ring has no room, or the stream is whole at the end of a metaframe, or it has nearly the
-- most words.
abbrev pub Rests : State → Type 0
Rests t = (t.lanes.ended ≡ true) ⊎ (has_room t.lanes ≡ false) ⊎ ((x : Sent) → Sends t x → ((t.lanes.place ≡ 0) × IsWholeLiveStream x.given x.words) ⊎ (most_words < length x.words + 64))

-- the same, if the lanes end with the stream as soon as each ring has room
abbrev pub IsStill : State → Type 0
IsStill t = (t.lanes.ended ≡ true) ⊎ (has_room t.lanes ≡ false) ⊎ ((x : Sent) → Sends t x → most_words < length x.words + 64)

-- words are made until so many bytes of a lane wait, as far as that goes, and none after that
pub record IsFilled (t u : State) (lane count : ℕ) : Type 0 where
  pub makes : MakesWords lane count t u
  pub still : length (waiting_on lane u.lanes) < count → IsStill u
  -- lanes that have ended stay so
  pub stays : t.lanes.ended ≡ true → u.lanes.ended ≡ true

-- the next bytes of a lane are taken, as many as wait and there is room for
pub record AreTaken (t u : State) (lane : ℕ) (old new : List ℕ) (n : ℕ) : Type 0 where
  pub count : n ≡ min (length old) (length (waiting_on lane t.lanes))
  pub copied : new ≡ take n (waiting_on lane t.lanes) ++ drop n old
  pub sends : (x : Sent) → Sends t x → Sends u (with_taken lane (take n (waiting_on lane t.lanes)) x)
  -- the lanes have ended if they had before
  pub ended : u.lanes.ended ≡ t.lanes.ended

-- words are made first, and then bytes are taken
abbrev pub IsTake : State → State → ℕ → List ℕ → List ℕ → ℕ → Type 0
IsTake t u lane old new n = (filled : State) × IsFilled t filled lane (length old) × AreTaken filled u lane old new n

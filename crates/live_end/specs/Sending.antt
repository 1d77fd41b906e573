-- What a live transmitter was given, which words it made of it, and which bytes of its lanes were taken.
use Rattle.std.specs.Prelude.{ℕ, ◌≡◌, ◌⊎◌, ◌+◌, ◌<◌, ◌≤◌, Bool, true, List, [], ◌++◌, length}
use Rattle.lk_base.specs.declared.word.Word.{Word}
use Rattle.lk_base.specs.declared.shape.Shape.{Shape}
use Rattle.lk_base.specs.Link.{Settings, group_of}
use Rattle.live_stream.specs.LiveStream.{Given, IsWholeLiveStream}
use Rattle.live_stream.specs.Gives.{Gives, closed_at, flow_added, local_added, most_words, nothing_given, packet_added, packets_closed_in}
use Rattle.live_lanes.specs.Standing.{Progress, Stands, progress, took}
use Rattle.live_end.specs.States.{State}

-- the settings of the link, what was given, the words that were made of it, how many words each lane made, and the bytes that were taken
-- of each
pub record Sent : Type 0 where
  pub settings : Settings
  pub given : Given
  pub words : List Word
  pub columns : ℕ
  pub taken : ℕ → List ℕ

abbrev pub sent : Settings → Given → List Word → ℕ → (ℕ → List ℕ) → Sent
sent settings given words columns taken = record { settings = settings; given = given; words = words; columns = columns; taken = taken }

-- all words are on the lanes
abbrev pub progress_of : Sent → Progress
progress_of x = progress x.settings x.words x.columns x.taken

abbrev pub nothing_sent : Settings → Shape → List ℕ → List ℕ → Sent
nothing_sent settings shape channels entries = sent settings (nothing_given shape settings.max_packet channels entries) [] 0 (λ i. [])

-- something more is given
abbrev pub with_given : Given → Sent → Sent
with_given given x = sent x.settings given x.words x.columns x.taken

abbrev pub with_packet : ℕ → List ℕ → Sent → Sent
with_packet channel bytes x = with_given (packet_added x.given x.words channel bytes) x

abbrev pub with_flow : ℕ → Sent → Sent
with_flow word x = with_given (flow_added x.given x.words word) x

abbrev pub with_local : ℕ → Bool → Sent → Sent
with_local channel on x = with_given (local_added x.given x.words channel on) x

-- no packet is given any more
abbrev pub with_packets_closed : Sent → Sent
with_packets_closed x = with_given (packets_closed_in x.given) x

-- nothing is given any more
abbrev pub with_close : Sent → Sent
with_close x = with_given (closed_at x.given x.words) x

-- each lane made so many words more, of these payload words
abbrev pub with_columns : ℕ → List Word → Sent → Sent
with_columns n words x = sent x.settings x.given (x.words ++ words) (x.columns + n) x.taken

-- these bytes were taken of a lane
abbrev pub with_taken : ℕ → List ℕ → Sent → Sent
with_taken lane bytes x = sent x.settings x.given x.words x.columns (took lane bytes (progress_of x)).taken

-- no word is made any more
abbrev pub IsOver : Given → List Word → Type 0
IsOver g w = IsWholeLiveStream g w ⊎ (most_words ≤ length w)

pub record Sends (t : State) (x : Sent) : Type 0 where
  pub gives : Gives t.scheduler x.given x.words
  pub stands : Stands t.lanes (progress_of x)
  pub row : length t.row ≡ x.settings.lanes
  pub group : x.given.shape.group ≡ group_of x.settings
  -- the longest packet that is accepted is that of the link
  pub longest : x.given.max_packet ≡ x.settings.max_packet
  -- as long as payload words of a metaframe are to come, the stream is not whole
  pub goes : 1 ≤ t.lanes.place → t.lanes.place + 1 < x.settings.metaframe → IsWholeLiveStream x.given x.words → ⊥
  -- the lanes end with the stream
  pub whole : t.lanes.ended ≡ true → IsWholeLiveStream x.given x.words

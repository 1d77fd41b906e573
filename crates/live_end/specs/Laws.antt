-- The laws on what a live transmitter sends.
use Rattle.std.specs.Prelude.{ℕ, ◌≡◌, ◌<◌, ◌≤◌, ◌*◌, ◌/◌, true, List, [], ◌++◌, length, take, All}
use Rattle.lk_base.specs.declared.word.Word.{Word}
use Rattle.lk_base.specs.Link.{group_of}
use Rattle.lane_model.specs.LaneBits.{IsFileOf, stream_lane_bits}
use Rattle.live_stream.specs.Gives.{IsAccepted}
use Rattle.live_stream.specs.LiveStream.{IsLiveStream, IsWholeLiveStream, LivePacket}
use Rattle.live_lanes.specs.Lanes.{waiting_on}
use Rattle.live_end.specs.States.{State}
use Rattle.live_end.specs.Sending.{Sends, Sent}

-- the words that were made are the live stream of what was given
abbrev pub WordsAreLive : Type 0
WordsAreLive = (t : State) (x : Sent) → Sends t x → IsLiveStream x.given x.words

-- each packet that was given is one of a listed channel, and has 1 to max_packet bytes by the settings of the link
abbrev pub PacketsAreOfTheLink : Type 0
PacketsAreOfTheLink = (t : State) (x : Sent) → Sends t x → All (λ (p : LivePacket). IsAccepted x.given.channels x.settings.max_packet p) x.given.packets

-- What was taken of a lane is the first of its file, whatever words follow, if all words fill the metaframes that were begun. Once the
-- lanes have ended none follow.
abbrev pub TakenAreFirst : Type 0
TakenAreFirst = (t : State) (x : Sent) (rest : List Word) (i : ℕ) (file : List ℕ) → Sends t x → i < x.settings.lanes →
    (t.lanes.ended ≡ true → rest ≡ []) → x.columns ≤ length (x.words ++ rest) / group_of x.settings * x.settings.metaframe →
    IsFileOf file (stream_lane_bits x.settings (x.words ++ rest) i) → take (length (x.taken i)) file ≡ x.taken i

-- Once the lanes have ended the words are the whole live stream, and what was taken of a lane is its file if nothing waits.
abbrev pub AllTakenAreTheFile : Type 0
AllTakenAreTheFile = (t : State) (x : Sent) (i : ℕ) → Sends t x → t.lanes.ended ≡ true → i < x.settings.lanes → waiting_on i t.lanes ≡ [] →
    IsWholeLiveStream x.given x.words × IsFileOf (x.taken i) (stream_lane_bits x.settings x.words i)

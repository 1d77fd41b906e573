-- The packets whose SOP word is in a stream, with the slots of their SOP words and end words.
use Rattle.std.specs.Prelude.{ℕ, ◌≡◌, ◌+◌, ◌<◌, ◌==◌, Bool, true, false, ◌&&◌, cond, List, [], ◌∷◌, map, filter_map, length, take, count_by, All, Option, None, MatchOption}
use Rattle.std.specs.Option.{option_map_or}
use Rattle.lk_base.specs.Words.{word_at}
use Rattle.lk_base.specs.Fields.{has_burst, has_sop, has_end, channel_number}
use Rattle.lk_base.specs.declared.word.Word.{Word}
use Rattle.lk_base.specs.declared.word.Word.TheVariants.{Data, Control}
use Rattle.control_words.specs.ControlWord as control
use Rattle.receive_model.specs.Lists.{last_of}
use Rattle.tx_words.specs.declared.sent.Sent.{Sent}

-- the channel of a burst word
abbrev pub burst_channel : Word → Option ℕ
burst_channel (Data x) = None
burst_channel (Control x) = control.burst_channel true x

-- a burst word with SOP, which is the SOP word of a packet
abbrev pub starts : Word → Bool
starts (Data x) = false
starts (Control x) = has_burst x && has_sop x

-- the SOP word of a packet of this channel
abbrev pub starts_on : ℕ → Word → Bool
starts_on channel (Data x) = false
starts_on channel (Control x) = has_burst x && (has_sop x && (channel_number true x == channel))

-- a control word with an end format
abbrev pub ends : Word → Bool
ends (Data x) = false
ends (Control x) = has_end x

-- the channel of the last burst word
abbrev pub last_channel : List Word → Option ℕ
last_channel before = last_of (filter_map burst_channel before)

-- A word with these before it ends a packet of this channel: it is a control word with an end format, and the last burst
-- word is on the channel.
abbrev pub ends_on : ℕ → List Word → Word → Bool
ends_on channel before word = ends word && option_map_or (λ c. c == channel) (last_channel before) false

-- the slots of the words that pass, among these words, of which the first stands at slot n
abbrev pub slots_where : (Word → Bool) → ℕ → List Word → List ℕ
slots_where passes n [] = []
slots_where passes n (word ∷ rest) = cond (passes word) (n ∷ slots_where passes (n + 1) rest) (slots_where passes (n + 1) rest)

-- at the slots between these two no packet of the channel ends, and none starts
abbrev pub IsQuiet : List Word → ℕ → ℕ → ℕ → Type 0
IsQuiet w channel from upto =
    (u : ℕ) → from < u → u < upto → (ends_on channel (take u w) (word_at w u) ≡ false) × (starts_on channel (word_at w u) ≡ false)

-- the packet of this channel whose SOP word stands at slot `first` has its end word at slot z
pub record IsEnd (w : List Word) (channel first z : ℕ) : Type 0 where
  pub behind : first < z
  pub within : z < length w
  pub ends : ends_on channel (take z w) (word_at w z) ≡ true
  pub quiet : IsQuiet w channel first z

-- what is listed of one packet
pub record IsSent (w : List Word) (s : Sent) : Type 0 where
  -- its SOP word
  pub within : s.first < length w
  pub starts : starts_on s.channel (word_at w s.first) ≡ true
  -- its number among the packets of its channel
  pub number : s.number ≡ count_by (starts_on s.channel) (take s.first w)
  -- its end word, which is missing exactly where there is none in the stream
  pub last : MatchOption s.last ((z : ℕ) → IsEnd w s.channel s.first z → ⊥) (λ z. IsEnd w s.channel s.first z)

-- the packets whose SOP word is in the stream, in the order of these words
pub record AreSent (w : List Word) (sent : List Sent) : Type 0 where
  pub firsts : map (λ (s : Sent). s.first) sent ≡ slots_where starts 0 w
  pub each : All (IsSent w) sent

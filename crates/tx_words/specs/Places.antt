-- What is known of the channels while the words of a stream are gone over.
use Rattle.std.specs.Prelude.{ℕ, ◌≡◌, ◌<◌, false, true, List, ◌∷◌, [], ◌++◌, map, length, cond, ◌&&◌, count_by, slice_index_or, All, Option, Some, None}
use Rattle.std.specs.Option.{option_or}
use Rattle.lk_base.specs.Words.{word_at}
use Rattle.lk_base.specs.Fields.{has_burst, has_sop, channel_number}
use Rattle.lk_base.specs.declared.word.Word.{Word}
use Rattle.lk_base.specs.declared.word.Word.TheVariants.{Data, Control}
use Rattle.tx_words.specs.declared.sent.Sent.{Sent}
use Rattle.tx_words.specs.declared.sent.Place.{Place}
use Rattle.tx_words.specs.Sent.{burst_channel, starts, starts_on, ends, ends_on, slots_where, IsQuiet, IsSent}

-- the channel of the SOP word of a packet
abbrev pub start_channel : Word → Option ℕ
start_channel (Data x) = None
start_channel (Control x) = cond (has_burst x && has_sop x) (Some (channel_number true x)) None

-- where `last` is the channel of the last burst word: the channel on which the word ends a packet
abbrev pub ended_channel : Option ℕ → Word → Option ℕ
ended_channel last word = cond (ends word) last None

-- and the channel of the last burst word after the word
abbrev pub channel_after : Option ℕ → Word → Option ℕ
channel_after last word = option_or (burst_channel word) last

-- no packet has started
abbrev pub fresh_place : Place
fresh_place = record { started = 0; current = None }

-- the packet of this channel whose SOP word stands at this slot is open after these words
pub record IsOpen (p : List Word) (channel first : ℕ) : Type 0 where
  pub within : first < length p
  pub starts : starts_on channel (word_at p first) ≡ true
  pub quiet : IsQuiet p channel first (length p)

-- The open packets are those that the places name.
pub record Named (Open : ℕ → ℕ → Type 0) (sent : List Sent) (places : List Place) : Type 0 where
  pub low : (k : ℕ) (s : Sent) → k < length sent → (slice_index_or sent k s).channel < 65536
  pub current_is : (c k : ℕ) (e : Place) (s : Sent) → c < 65536 → (slice_index_or places c e).current ≡ Some k →
      (k < length sent) × ((slice_index_or sent k s).channel ≡ c) × Open c (slice_index_or sent k s).first
  pub names : (k : ℕ) (e : Place) (s : Sent) → k < length sent → Open (slice_index_or sent k s).channel (slice_index_or sent k s).first →
      (slice_index_or places (slice_index_or sent k s).channel e).current ≡ Some k

-- the places count the SOP words of each channel
abbrev pub AreCounted : List Word → List Place → Type 0
AreCounted p places = (c : ℕ) (e : Place) → c < 65536 → (slice_index_or places c e).started ≡ count_by (starts_on c) p

-- the list and the places are those of these words
pub record Stands (p : List Word) (sent : List Sent) (places : List Place) : Type 0 where
  pub len : length places ≡ 65536
  pub firsts : map (λ (s : Sent). s.first) sent ≡ slots_where starts 0 p
  pub each : All (IsSent p) sent
  pub named : Named (IsOpen p) sent places
  pub counted : AreCounted p places

-- the same, where one more word ended the packet that it ends and started none yet
pub record Half (p : List Word) (word : Word) (sent : List Sent) (places : List Place) : Type 0 where
  pub len : length places ≡ 65536
  pub firsts : map (λ (s : Sent). s.first) sent ≡ slots_where starts 0 p
  pub each : All (IsSent (p ++ word ∷ [])) sent
  pub below : All (λ (s : Sent). s.first < length p) sent
  pub named : Named (λ c first. IsOpen p c first × (ends_on c p word ≡ false)) sent places
  pub counted : AreCounted p places

-- Where the words that are given stand in their lanes.
use Rattle.std.specs.Prelude.{ℕ, ◌≡◌, ◌≤◌, ◌<◌, ◌+◌, ◌*◌, List, [], ◌∷◌, length, map, get_or, Contains}
use Rattle.lk_base.specs.declared.word.Aligned.{Aligned}
use Rattle.lk_base.specs.declared.word.Aligned.TheVariants.{Group, Word, Break}
use Rattle.lk_base.specs.declared.word.RxWord.{RxWord}
use Rattle.lk_base.specs.declared.word.RxWord.TheVariants.{Bad}
use Rattle.lk_base.specs.Link.{Settings}
use Rattle.lock_model.specs.Tracks.{Track}
use Rattle.epoch_model.specs.GroupLaw.{HasAttempts}
use Rattle.epoch_model.specs.SoFar.{tracks_in}
use Rattle.event_model.specs.Fed.{Fed, clock_of, first_bits}
use Rattle.event_model.specs.Given.{bits_in, lanes_at}
use Rattle.live_gatherer.specs.declared.types.Gathered.{Gathered}
use Rattle.live_gatherer.specs.declared.types.Gathered.TheVariants as gathereds

-- one of these locks shows this word at this bit
pub record IsShownBy (tracks : List Track) (bit : ℕ) (word : RxWord) : Type 0 where
  pub track : Track
  pub known : Contains tracks track
  -- how many words of the lock stand before it
  pub number : ℕ
  pub covered : number < length track.words
  pub at : bit ≡ track.at + 67 * number
  pub is : get_or track.words number Bad ≡ word

-- a lock of the lane shows this word at this bit, by the bits that were fed up to some clock
pub record Shows (s : Settings) (fed : List Fed) (lane bit : ℕ) (word : RxWord) : Type 0 where
  pub clock : ℕ
  pub in_time : clock ≤ clock_of fed
  pub shown : (received : List (HasAttempts s.metaframe)) → bits_in s.metaframe received ≡ map (first_bits clock) fed → IsShownBy (get_or (tracks_in (lanes_at s clock fed received)) lane []) bit word

-- what is given is a word that its lane shows at its bit, or no word
abbrev pub IsShown : Settings → List Fed → Gathered → Type 0
IsShown s fed (gathereds.Word w) = Shows s fed w.lane w.bit w.word
IsShown s fed (gathereds.Break b) = Unit {0}
IsShown s fed gathereds.Ended = Unit {0}

-- ---- within

-- all of these are words
abbrev pub AreWords : List Aligned → Type 0
AreWords [] = Unit {0}
AreWords (Group at ∷ items) = ⊥
AreWords (Word at word ∷ items) = AreWords items
AreWords (Break at why ∷ items) = ⊥

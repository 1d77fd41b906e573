-- How a taker stands to what was fed of the lanes and to what was given, and what it gives next.
use Rattle.std.specs.Prelude.{ℕ, ◌≡◌, ◌+◌, ◌*◌, ◌/◌, ◌%◌, Bool, true, false, List, [], ◌∷◌, ◌++◌, Option, Some, None}
use Rattle.lk_base.specs.declared.word.Aligned.{Aligned}
use Rattle.lk_base.specs.declared.word.Aligned.TheVariants.{Group, Word, Break}
use Rattle.lk_base.specs.Link.{Settings}
use Rattle.deskew.specs.Steps.{start_at}
use Rattle.event_model.specs.Fed.{Fed, clock_of}
use Rattle.event_model.specs.Given.{AreItems}
use Rattle.rx_front.specs.Standing as front
use Rattle.rx_front.specs.Standing.{Progress}
use Rattle.rx_front.specs.States.{State}
use Rattle.live_gatherer.specs.declared.taker.Taker.{Taker}
use Rattle.live_gatherer.specs.declared.types.Gathered.{Gathered}
use Rattle.live_gatherer.specs.declared.types.Gathered.TheVariants as gathereds
use Rattle.live_gatherer.specs.declared.types.GatheredBreak.{GatheredBreak}
use Rattle.live_gatherer.specs.declared.types.GatheredWord.{GatheredWord}
use Rattle.live_gatherer.specs.Bits.{IsShown}
use Rattle.live_gatherer.specs.Numbers.{Counts, Numbered, as_number, numbered}

-- ---- what was taken

-- this was fed of each lane, and this was given
pub record Takes (v : Taker) (s : Settings) (fed : List Fed) (given : List Numbered) : Type 0 where
  -- these items were taken of the front, which has come so far
  pub items : List Aligned
  pub progress : Progress
  pub front : front.Stands v.front s fed items progress
  pub link : v.link ≡ s
  pub counts : Counts v.numbering items
  -- what was given are the words and breaks of these items, with their numbers
  pub gave : given ≡ numbered items

-- something was fed and given
abbrev pub HasRun : Taker → Type 0
HasRun v = ∥ ((s : Settings) × (fed : List Fed) × (given : List Numbered) × Takes v s fed given) ∥₁

-- nothing is left to be given of what the clock has shown
pub record Drained (v : Taker) (s : Settings) (fed : List Fed) (given : List Numbered) : Type 0 where
  pub items : List Aligned
  pub progress : Progress
  pub front : front.Drained v.front s fed items progress
  pub link : v.link ≡ s
  pub counts : Counts v.numbering items
  pub gave : given ≡ numbered items

-- this is all that is known of what was fed
abbrev pub AreAll : Settings → List Fed → List Numbered → Type 0
AreAll s fed given = (known : List Aligned) → AreItems s (clock_of fed) fed known → given ≡ numbered known

-- ---- what is given

abbrev pub is_group : Aligned → Bool
is_group (Group at) = true
is_group (Word at word) = false
is_group (Break at why) = false

-- the bit position of a word in its lane, whose Sync in this group is there: the words of the lane in a group come after its Sync, its
-- Scrambler State and its Skip words
abbrev pub bit_of : ℕ → ℕ → ℕ → ℕ
bit_of start skips row = start + 67 * (skips + 2 + row)

-- a word is shown so; word w of a group is word w / lanes of lane w % lanes
pub record IsWord (s : Settings) (f : State) (item : Aligned) (number : ℕ) (w : GatheredWord) : Type 0 where
  pub is : item ≡ Word w.at w.word
  pub counted : w.number ≡ number
  pub lane : w.lane ≡ w.at.index % s.lanes
  -- the Sync is that of the lane in the group that the front gave last
  pub bit : w.bit ≡ bit_of (start_at w.lane f.deskew) s.skips (w.at.index / s.lanes)

-- and a break so
pub record IsBreak (item : Aligned) (number : ℕ) (b : GatheredBreak) : Type 0 where
  pub is : item ≡ Break b.at b.why
  pub counted : b.number ≡ number

-- an item is shown so
abbrev pub IsTold : Settings → State → Aligned → ℕ → Gathered → Type 0
IsTold s f item number (gathereds.Word w) = IsWord s f item number w
IsTold s f item number (gathereds.Break b) = IsBreak item number b
IsTold s f item number gathereds.Ended = ⊥

-- the next word or break is given after those before, with its number
pub record Gives (answer : Gathered) (v : Taker) (s : Settings) (fed : List Fed) (given : List Numbered) : Type 0 where
  pub next : Numbered
  pub told : IsTold s v.front next.item (as_number next.number) answer
  -- a lock of the lane shows a word at its bit
  pub shown : IsShown s fed answer
  pub takes : Takes v s fed (given ++ next ∷ [])

-- or none, if nothing is left to be given of what the clock has shown
abbrev pub GivesShown : Option Gathered → Taker → Settings → List Fed → List Numbered → Type 0
GivesShown (Some answer) v s fed given = Gives answer v s fed given
GivesShown None v s fed given = Drained v s fed given

-- or none, if all that is known of what was fed was given
abbrev pub GivesNext : Option Gathered → Taker → Settings → List Fed → List Numbered → Type 0
GivesNext (Some answer) v s fed given = Gives answer v s fed given
GivesNext None v s fed given = Takes v s fed given × AreAll s fed given

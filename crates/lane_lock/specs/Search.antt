-- A lane that is far from a declared lock.
use Rattle.std.specs.Prelude.{ℕ, ◌≡◌, ◌≤◌, ◌<◌, ◌+◌, ◌-◌, ◌*◌, Bool, false, List, ◌++◌, length, take, slice_get, Some, MatchBool}
use Rattle.lk_base.specs.Checksum.{bits_of_bytes}
use Rattle.lk_base.specs.Link.{Settings}
use Rattle.lane_model.specs.Coding.{is_legal}
use Rattle.lock_model.specs.declared.types.LaneStep.{LaneStep}
use Rattle.lock_model.specs.declared.types.LaneStep.TheVariants as steps
use Rattle.lock_model.specs.Locks.{code_at}
use Rattle.lock_model.specs.Steps.{AreSteps}
use Rattle.phase_finder.specs.Phases.{highest}
use Rattle.lane_lock.specs.Lane.{LaneView}
use Rattle.lane_lock.specs.Standing.{Stands}
use Rattle.lane_lock.specs.Watch.{WatchState}

-- of a word lock no lock is declared, and at no place of its metaframes more than one word in a row, up to the last, is Sync
pub record HasFewSyncs (w : WatchState) : Type 0 where
  pub undeclared : w.declared ≡ false
  pub few : highest w.frames.counts ≤ 1

-- no word lock goes on, and no position of the search has more than 32 words with legal headers in a row up to the last bit; or one goes
-- on that had few Syncs
abbrev pub IsFar : LaneView → Type 0
IsFar v = MatchBool v.watching (HasFewSyncs v.watch) (highest v.starts.counts ≤ 32)

-- no step that the next bits complete, those of 64 words at most, declares a lock: a word lock that a search finds in them began less
-- than 33 words ago, and a lock is declared at its 97th word or later; of one that goes on 64 words have two Syncs of one place at most,
-- where it takes four in a row
abbrev pub FarDeclaresNothing : Type 0
FarDeclaresNothing = (v : LaneView) (s : Settings) (bits given : List Bool) (own shown : List LaneStep) (k at : ℕ) → IsFar v → length given ≤ 67 * 64 →
    Stands v s bits → AreSteps s bits own → AreSteps s (bits ++ given) (own ++ shown) → slice_get shown k ≡ Some (steps.Locked at) → ⊥

-- each of the last 67 positions of these bits at which a whole word is there, or one up to `words` - 1 words before it, has an illegal
-- header
abbrev pub MissEach : List Bool → ℕ → Type 0
MissEach bits words = (j : ℕ) → j < 67 → (i : ℕ) × (1 ≤ i) × (i ≤ words) × (is_legal (code_at bits (length bits + j - 66 - 67 * i)) ≡ false)

-- no word lock is found in these bytes, which come next, and their last words alone show what a search knows after them
pub record CanPass (v : LaneView) (bytes : List ℕ) (words : ℕ) : Type 0 where
  pub searching : v.watching ≡ false
  pub far : highest v.starts.counts ≤ 32
  -- a position of the search is there
  pub begun : v.from + 67 ≤ v.taken
  pub least : 256 ≤ length bytes
  pub most : length bytes ≤ 536
  -- each of the 67 positions of a word has an illegal header in the last 24 words of the first 256 bytes: a word lock that began before
  -- it has too many words to go, and for one that begins after it there are too few
  pub first : (early : ℕ) × (early ≤ 24) × MissEach (bits_of_bytes (take 256 bytes)) early
  -- and one in the last words
  pub few : words ≤ 24
  pub last : MissEach (bits_of_bytes bytes) words

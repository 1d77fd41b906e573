-- What the bits of a byte complete.
use Rattle.std.specs.Prelude.{ℕ, ◌≡◌, ◌<◌, ◌≤◌, ◌+◌, ◌-◌, ◌*◌, ◌%◌, ◌^◌, Bool, true, List, ◌∷◌, ◌++◌, length, replicate, Option, Some, None}
use Rattle.lk_base.specs.Link.{Settings}
use Rattle.lock_model.specs.declared.types.LaneStep.{LaneStep}
use Rattle.lock_model.specs.declared.types.LaneStep.TheVariants as steps
use Rattle.lock_model.specs.Low.{all_low}
use Rattle.lock_model.specs.Shows.{shown_in}
use Rattle.lock_model.specs.Steps.{AreSteps}
use Rattle.lane_lock.specs.declared.completed.Completed.{Completed}
use Rattle.lane_lock.specs.Lane.{LaneView}
use Rattle.lane_lock.specs.Standing.{Stands}

-- the steps of this many bits, one for each, where a word of a word lock ends within them or none does
abbrev pub steps_of_bits : ℕ → Option Completed → List LaneStep
steps_of_bits n None = replicate n steps.Nothing
steps_of_bits n (Some c) = replicate c.place steps.Nothing ++ c.step ∷ replicate (n - 1 - c.place) steps.Nothing

-- those of the eight bits of a byte
abbrev pub steps_of_byte : Option Completed → List LaneStep
steps_of_byte completed = steps_of_bits 8 completed

-- these bits complete these steps, one for each, whatever bits came before
abbrev pub Brings : LaneView → LaneView → List Bool → List LaneStep → Type 0
Brings v w given shown = (s : Settings) (bits : List Bool) (own : List LaneStep) → Stands v s bits → AreSteps s bits own →
    Stands w s (bits ++ given) × AreSteps s (bits ++ given) (own ++ shown)

-- these bits complete a step each, and those of them that show something are appended
pub record BringsBatch (v w : LaneView) (given : List Bool) (before after : List LaneStep) : Type 0 where
  -- one for each bit in order
  pub column : List LaneStep
  pub long : length column ≡ length given
  pub low : all_low column
  pub appended : after ≡ before ++ shown_in column
  pub brings : Brings v w given column

-- a word of a word lock ends within this many bits
abbrev pub EndsWithin : LaneView → ℕ → Type 0
EndsWithin v count = (v.watching ≡ true) × (v.at + 67 ≤ v.taken + count)

-- since the first `first` bits had come, words ended at least 67 bits apart: there are `count` steps, and were `before` then
abbrev pub IsSparse : ℕ → ℕ → LaneView → ℕ → Type 0
IsSparse first before v count = 67 * (count - before) ≤ v.at + 66 - first

abbrev pub StaysSparse : LaneView → ℕ → LaneView → ℕ → Type 0
StaysSparse v count w more = (first before : ℕ) → first ≤ v.taken → IsSparse first before v count → IsSparse first before w more

-- no word of a word lock ends within this many bits
abbrev pub Rests : LaneView → ℕ → Type 0
Rests v count = v.watching ≡ true → v.taken + count < v.at + 67

-- this many bits more, which are this number
abbrev pub with_bits : LaneView → ℕ → ℕ → LaneView
with_bits v count bits = record {
  window = (v.window * 2 ^ count + bits) % 2 ^ 67;
  taken = v.taken + count;
  from = v.from;
  starts = v.starts;
  marks = v.marks;
  watching = v.watching;
  at = v.at;
  watch = v.watch;
  report = v.report;
}

-- The steps that bits of a lane show, with payload words that stand one after another kept as words.
use Rattle.std.specs.Prelude.{ℕ, List, ◌++◌}
use Rattle.lk_base.specs.declared.word.RxWord.{RxWord}
use Rattle.lock_model.specs.declared.types.LaneStep.{LaneStep}
use Rattle.lock_model.specs.PayloadSteps.{payload_steps}

pub record FoundSteps : Type 0 where
  -- the steps before the payload words, and those after them
  pub before : List LaneStep
  pub after : List LaneStep
  -- the payload words, the number of the first in its metaframe, and its bit position
  pub words : List RxWord
  pub number : ℕ
  pub at : ℕ
  -- how many steps there is room for
  pub room : ℕ

-- the steps in order
abbrev pub found_steps : FoundSteps → List LaneStep
found_steps f = f.before ++ (payload_steps f.number f.at f.words ++ f.after)

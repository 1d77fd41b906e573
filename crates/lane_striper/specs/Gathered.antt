-- The words that are gathered from lists.
use Rattle.std.specs.Prelude.{ℕ, ◌≡◌, ◌<◌, ◌≤◌, ◌/◌, ◌%◌, List, [], length, get_or, map}
use Rattle.std.specs.List.{range_with_len}
use Rattle.lk_base.specs.declared.word.Word.{Word}
use Rattle.lane_model.specs.Striping.{lane_payload}

-- the list in which word number n stands
abbrev pub list_of : List (List Word) → ℕ → List Word
list_of lists n = get_or lists (n % length lists) []

-- word number n stands in its list, at the place n divided by the lists
pub record IsBegun (lists : List (List Word)) (words : List Word) : Type 0 where
  pub there : (n : ℕ) → n < length words → n / length lists < length (list_of lists n)
  pub each : (n : ℕ) (d : Word) → n < length words → get_or words n d ≡ get_or (list_of lists n) (n / length lists) d

-- the words in order of number, up to the first that a list lacks
pub record IsGathered (lists : List (List Word)) (words : List Word) : Type 0 where
  pub begun : IsBegun lists words
  pub lacks : length (list_of lists (length words)) ≤ length words / length lists

-- what is gathered from the lists of some words is those words
abbrev pub GatheredIsStriped : Type 0
GatheredIsStriped = (lanes : ℕ) (words back : List Word) → 1 ≤ lanes →
    IsGathered (map (lane_payload lanes words) (range_with_len 0 lanes)) back → back ≡ words

-- The words and breaks of items, in order, each with its number.
use Rattle.std.specs.Prelude.{ℕ, ◌≡◌, ◌+◌, ◌-◌, ◌^◌, Bool, false, List, [], ◌∷◌, ◌++◌, length, min}
use Rattle.lk_base.specs.declared.word.Aligned.{Aligned}
use Rattle.lk_base.specs.declared.word.Aligned.TheVariants.{Group, Word, Break}
use Rattle.lk_base.specs.declared.word.RxWord.{RxWord}
use Rattle.lane_words.specs.Gathered.{between, ends_broken, gathered_words, is_break, own_words}
use Rattle.live_gatherer.specs.declared.numbering.Numbering.{Numbering}

-- ---- what is given

pub record Numbered : Type 0 where
  -- a word or a break
  pub item : Aligned
  -- how many words stand before it, the one for a break right before it among them
  pub number : ℕ

-- an item itself before which this many words stand; a group is not given
abbrev pub own_numbered : ℕ → Aligned → List Numbered
own_numbered count (Group at) = []
own_numbered count (Word at word) = record { item = Word at word; number = count } ∷ []
own_numbered count (Break at why) = record { item = Break at why; number = count } ∷ []

-- items, where a break stands right before the first of them or not, and this many words stand before them
abbrev pub numbered_after : Bool → ℕ → List Aligned → List Numbered
numbered_after broken count [] = []
numbered_after broken count (x ∷ items) =
    own_numbered (count + length (between broken)) x ++ numbered_after (is_break x) (count + length (between broken) + length (own_words x)) items

-- all items
abbrev pub numbered : List Aligned → List Numbered
numbered items = numbered_after false 0 items

-- ---- the numbers

-- a number as it is shown in 64 bits: the greatest that there is, if it is greater
abbrev pub as_number : ℕ → ℕ
as_number n = min n (2 ^ 64 - 1)

abbrev pub count_words : List RxWord → ℕ
count_words words = length words

-- the number of the item that comes after these
abbrev pub next_number : List Aligned → ℕ
next_number items = length (gathered_words items ++ between (ends_broken false items))

-- these items were counted
pub record Counts (n : Numbering) (items : List Aligned) : Type 0 where
  pub words : n.words ≡ as_number (length (gathered_words items))
  pub broken : n.broken ≡ ends_broken false items

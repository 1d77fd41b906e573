-- The words of aligned lanes in one order, and where their groups and breaks stand among them.
use Rattle.std.specs.Prelude.{ℕ, ◌+◌, Bool, true, false, List, [], ◌∷◌, ◌++◌, length, map, Some, None}
use Rattle.lk_base.specs.declared.word.Aligned.{Aligned}
use Rattle.lk_base.specs.declared.word.Aligned.TheVariants.{Group, Word, Break}
use Rattle.lk_base.specs.declared.word.RxWord.{RxWord}
use Rattle.lk_base.specs.declared.word.RxWord.TheVariants.{Bad}
use Rattle.receive_model.specs.Positions.{Epoch, Placed}
use Rattle.lane_words.specs.declared.places.PlaceRow.{PlaceRow}

-- ---- one item

-- an epoch ends with it
abbrev pub is_break : Aligned → Bool
is_break (Group at) = false
is_break (Word at word) = false
is_break (Break at why) = true

-- its own word, if it is one
abbrev pub own_words : Aligned → List RxWord
own_words (Group at) = []
own_words (Word at word) = word ∷ []
own_words (Break at why) = []

-- the word between an epoch that has ended and the item that comes next
abbrev pub between : Bool → List RxWord
between false = []
between true = Bad ∷ []

-- the row of a group, or of a break, before which this many words stand
abbrev pub own_rows : ℕ → Aligned → List PlaceRow
own_rows count (Group at) = record { word = count; at = record { group = at.group; index = 0 }; why = None } ∷ []
own_rows count (Word at word) = []
own_rows count (Break at why) = record { word = count; at = at; why = Some why } ∷ []

-- how many epochs end with it
abbrev pub own_epochs : Aligned → ℕ
own_epochs (Group at) = 0
own_epochs (Word at word) = 0
own_epochs (Break at why) = 1

-- ---- items, where a break stands right before the first of them or not

abbrev pub words_after : Bool → List Aligned → List RxWord
words_after broken [] = []
words_after broken (x ∷ items) = between broken ++ (own_words x ++ words_after (is_break x) items)

-- and this many words stand before them
abbrev pub places_after : Bool → ℕ → List Aligned → List PlaceRow
places_after broken count [] = []
places_after broken count (x ∷ items) =
    own_rows (count + length (between broken)) x ++ places_after (is_break x) (count + length (between broken) + length (own_words x)) items

-- a break stands right before what comes after them
abbrev pub ends_broken : Bool → List Aligned → Bool
ends_broken broken [] = broken
ends_broken broken (x ∷ items) = ends_broken (is_break x) items

-- ---- all items

-- the words in their order, and where an item comes after a break, one Bad word for the break
abbrev pub gathered_words : List Aligned → List RxWord
gathered_words items = words_after false items

-- a row for each group and each break, in order, with the number of words that stand before it
abbrev pub places : List Aligned → List PlaceRow
places items = places_after false 0 items

-- how many epochs end
abbrev pub epochs_in : List Aligned → ℕ
epochs_in [] = 0
epochs_in (x ∷ items) = own_epochs x + epochs_in items

-- ---- epochs

-- the words of epochs: those of each in order, and one Bad word between it and the next
abbrev pub words_of_epochs : List Epoch → List RxWord
words_of_epochs [] = []
words_of_epochs (e ∷ []) = map (λ (x : Placed). x.word) e.words
words_of_epochs (e ∷ next ∷ epochs) = map (λ (x : Placed). x.word) e.words ++ Bad ∷ words_of_epochs (next ∷ epochs)

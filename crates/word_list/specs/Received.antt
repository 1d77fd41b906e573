-- Received words as numbers and kinds.
use Rattle.std.specs.Prelude.{ℕ, suc, ◌+◌, List, [], ◌∷◌, set}
use Rattle.lk_base.specs.declared.word.RxWord.{RxWord}
use Rattle.lk_base.specs.declared.word.RxWord.TheVariants.{Data, Control, Bad}
use Rattle.word_list.specs.declared.kind.WordKind.{WordKind}
use Rattle.word_list.specs.declared.kind.WordKind.TheVariants as kinds

-- what a block holds: its words, and how many it has room for
pub record Block : Type 0 where
  pub room : ℕ
  pub words : List RxWord

-- the kind of a word
abbrev pub kind_of : RxWord → WordKind
kind_of (Data x) = kinds.Data
kind_of (Control x) = kinds.Control
kind_of Bad = kinds.Bad

-- the word of this number and this kind; of a bad word the number means nothing
abbrev pub rx_word_of : ℕ → WordKind → RxWord
rx_word_of x kinds.Data = Data x
rx_word_of x kinds.Control = Control x
rx_word_of x kinds.Bad = Bad

-- the words of these numbers and of as many kinds, in order
abbrev pub rx_words_of : List ℕ → List WordKind → List RxWord
rx_words_of [] ks = []
rx_words_of (x ∷ xs) [] = []
rx_words_of (x ∷ xs) (k ∷ ks) = rx_word_of x k ∷ rx_words_of xs ks

-- the words stand at every `step`-th place of the block, the first at this one
abbrev pub spread : ℕ → ℕ → List RxWord → List RxWord → List RxWord
spread step from [] block = block
spread step from (w ∷ words) block = spread step (from + step) words (set block from w)

-- the numbers of the data words before the first word of another kind
abbrev pub data_front : List RxWord → List ℕ
data_front [] = []
data_front (Data x ∷ words) = x ∷ data_front words
data_front (Control x ∷ words) = []
data_front (Bad ∷ words) = []

-- how many of these kinds, from the first on, are those of data words
abbrev pub data_count : List WordKind → ℕ
data_count [] = 0
data_count (kinds.Data ∷ ks) = suc (data_count ks)
data_count (kinds.Control ∷ ks) = 0
data_count (kinds.Bad ∷ ks) = 0

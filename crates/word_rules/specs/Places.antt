-- What stands before a word. `earlier` is always the list of the words before it, the latest first, so the number of the word
-- is the length of `earlier`.
use Rattle.std.specs.Prelude.{ℕ, suc, Bool, false, ◌&&◌, cond, List, [], ◌∷◌, Option, Some, None}
use Rattle.std.specs.Option.{option_map, option_map_or, option_and_then}
use Rattle.lk_base.specs.declared.word.RxWord.{RxWord}
use Rattle.lk_base.specs.declared.word.RxWord.TheVariants.{Data, Control, Bad}
use Rattle.lk_base.specs.Fields.{is_control_word, has_burst, channel_number}
use Rattle.lk_base.specs.Words.{is_bad}
pub use Rattle.word_list.specs.Received.{data_front as data_before}

-- a burst word: an accepted control word with bit 62
abbrev pub is_burst_word : ℕ → Bool
is_burst_word x = is_control_word x && has_burst x

-- the number of a Control word, accepted or not
abbrev pub control_number : RxWord → Option ℕ
control_number (Data x) = None
control_number (Control x) = Some x
control_number Bad = None

-- the number of a burst word
abbrev pub burst_number : RxWord → Option ℕ
burst_number (Data x) = None
burst_number (Control x) = cond (is_burst_word x) (Some x) None
burst_number Bad = None

-- What is not unknown: the words after the last Bad word, or all where there is none. What stands at or before the last Bad
-- word is unknown.
abbrev pub known : List RxWord → List RxWord
known [] = []
known (Data x ∷ earlier) = Data x ∷ known earlier
known (Control x ∷ earlier) = Control x ∷ known earlier
known (Bad ∷ earlier) = []

-- the words after the Control word before the place, or all where there is none
abbrev pub since_control : List RxWord → List RxWord
since_control [] = []
since_control (Data x ∷ earlier) = Data x ∷ since_control earlier
since_control (Control x ∷ earlier) = []
since_control (Bad ∷ earlier) = Bad ∷ since_control earlier

-- the word right before these Data words, or right before the place where there are none
abbrev pub word_before_data : List RxWord → Option RxWord
word_before_data [] = None
word_before_data (Data x ∷ earlier) = word_before_data earlier
word_before_data (Control x ∷ earlier) = Some (Control x)
word_before_data (Bad ∷ earlier) = Some Bad

-- The burst word whose burst goes up to the place: its Data words are those right before the place. Where the word of the place
-- is Data, it is the next of this burst, and where it is a Control word, the burst is closed there.
abbrev pub burst_before : List RxWord → Option ℕ
burst_before earlier = option_and_then burst_number (word_before_data earlier)

-- the channel of this burst
abbrev pub channel_before : Bool → List RxWord → Option ℕ
channel_before wide earlier = option_map (channel_number wide) (burst_before earlier)

-- a Bad word stands right before the place, or right before the Data words that stand before it
abbrev pub follows_bad : List RxWord → Bool
follows_bad earlier = option_map_or is_bad (word_before_data earlier) false

-- how many words stand between the last burst word before the place and the place, if there is a burst word
abbrev pub words_since_burst : List RxWord → Option ℕ
words_since_burst [] = None
words_since_burst (Data x ∷ earlier) = option_map suc (words_since_burst earlier)
words_since_burst (Control x ∷ earlier) = cond (is_burst_word x) (Some 0) (option_map suc (words_since_burst earlier))
words_since_burst (Bad ∷ earlier) = option_map suc (words_since_burst earlier)

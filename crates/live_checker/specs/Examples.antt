-- Worked examples of what is told as words come.
use Rattle.std.specs.Prelude.{ℕ, ◌≡◌, List, [], ◌∷◌}
use Rattle.lk_base.specs.declared.word.RxWord.{RxWord}
use Rattle.lk_base.specs.declared.word.RxWord.TheVariants.{Data, Control, Bad}
use Rattle.word_rules.specs.declared.fault.Fault.{Fault}
use Rattle.word_rules.specs.declared.rule.WordRule.TheVariants as rules
use Rattle.word_rules.specs.Examples.{plain_plan, small, told, told_on}
use Rattle.word_rules.specs.Faults.{faults}
use Rattle.live_checker.specs.Live.{live_faults, shown_at}
use Rattle.live_checker.specs.Standing.{Checked, nothing_checked, with_heard, with_word}

-- an idle, a burst word, and a Control word that is not accepted
abbrev pub empty_words : List RxWord
empty_words = Control 0x81ffff0000188177 ∷ Control 0xe1ffff00001e8142 ∷ Control 0x0 ∷ []

-- the same on a channel that is not listed
abbrev pub unlisted_words : List RxWord
unlisted_words = Control 0x81ffff0000188177 ∷ Control 0xe1ffff07009cc9b6 ∷ Control 0x0 ∷ []

-- an idle, and a burst word on channel 0
abbrev pub idle : RxWord
idle = Control 0x81ffff0000188177

abbrev pub burst : RxWord
burst = Control 0xe1ffff00001e8142

-- a word of flow control that turns channel 0 off
abbrev pub off : ℕ
off = 0x817fff0000be98a3

-- nothing was given, and the calendar has one entry: channel 0
abbrev pub nothing : Checked
nothing = nothing_checked small (0 ∷ 1 ∷ []) (0 ∷ [])

-- the rows that the words show
abbrev pub rows_of : Checked → List Fault
rows_of x = live_faults x.plan x.words

pub record LiveExamples : Type 0 where
  -- the row of `empty` comes with the word after its word, and before that word's own rows
  pub late : live_faults plain_plan empty_words ≡ told_on 1 rules.Empty 0 ∷ told 2 rules.Control ∷ told 2 rules.Crc ∷ []
  -- the first two words show nothing
  pub not_yet : live_faults plain_plan (Control 0x81ffff0000188177 ∷ Control 0xe1ffff00001e8142 ∷ []) ≡ []
  -- a Data word shows no row of `empty`
  pub data_after : shown_at plain_plan (Control 0xe1ffff00001e8142 ∷ Control 0x81ffff0000188177 ∷ []) (Data 0x0) ≡ []
  -- nor does a Bad word
  pub bad_after : shown_at plain_plan (Control 0xe1ffff00001e8142 ∷ Control 0x81ffff0000188177 ∷ []) Bad ≡ told 2 rules.Bad ∷ []
  -- of a burst word that breaks another rule, too, the row of `empty` comes after the other, whose place among the rows is after it
  pub last : live_faults plain_plan unlisted_words ≡ told_on 1 rules.Channel 7 ∷ told_on 1 rules.Empty 7 ∷ told 2 rules.Control ∷ told 2 rules.Crc ∷ []
  pub in_order : faults plain_plan unlisted_words ≡ told_on 1 rules.Empty 7 ∷ told_on 1 rules.Channel 7 ∷ told 2 rules.Control ∷ told 2 rules.Crc ∷ []
  -- the last word has no row of `empty`
  pub at_the_end : live_faults plain_plan (Control 0x81ffff0000188177 ∷ Control 0xe1ffff07009cc9b6 ∷ []) ≡ told_on 1 rules.Channel 7 ∷ []
  -- a word of flow control counts from the next word on: a burst that begins after it breaks the rule
  pub off_before : rows_of (with_word burst (with_heard off (with_word idle nothing))) ≡ told_on 1 rules.Off 0 ∷ []
  -- it does not count for the word before it
  pub off_after : rows_of (with_heard off (with_word burst (with_word idle nothing))) ≡ []
  -- before any word it counts from word 0 on
  pub off_first : rows_of (with_word burst (with_heard off nothing)) ≡ told_on 0 rules.Off 0 ∷ []

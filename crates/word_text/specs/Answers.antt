-- What the calls answer, and what they leave of the list that they append to.
use Rattle.std.specs.Prelude.{ℕ, ◌≡◌, ◌+◌, Result, Ok, Err, List, ◌++◌, length}
use Rattle.lk_base.specs.declared.word.RxWord.{RxWord}
use Rattle.words_files.specs.declared.error.WordsError.{WordsError}
use Rattle.words_files.specs.WordsOfFile.{words_of_file}
use Rattle.words_files.specs.declared.text_error.TextError.{TextError}
use Rattle.word_text.specs.CodeLines.{rest_lines}
use Rattle.word_text.specs.Listings.{IsWordsListing, IsLaneListing, IsListing}
use Rattle.word_text.specs.Refusals.{IsRefusedFor}

-- the listing of a words file that its readers accept was appended to `old`, with this many lines
pub record ListsWords (bytes old new : List ℕ) (count : ℕ) : Type 0 where
  pub text : List ℕ
  pub listing : IsWordsListing text bytes
  pub counted : count ≡ length listing.lines + 1
  pub put : new ≡ old ++ text
  pub read : List RxWord
  pub accepted : words_of_file bytes ≡ Ok read

-- the answer to a words file: its listing was appended to `old`, or it is refused as its readers refuse it and nothing changed
abbrev pub AnswersWords : List ℕ → List ℕ → List ℕ → Result ℕ WordsError → Type 0
AnswersWords bytes old new (Ok count) = ListsWords bytes old new count
AnswersWords bytes old new (Err refusal) = (words_of_file bytes ≡ Err refusal) × (new ≡ old)

-- the listing of a lane file was appended to `old`, with this many lines
pub record ListsLane (bytes old new : List ℕ) (count : ℕ) : Type 0 where
  pub text : List ℕ
  pub listing : IsLaneListing text bytes
  pub counted : count ≡ length (listing.lines ++ rest_lines listing.rest) + 1
  pub put : new ≡ old ++ text

-- the answer to a text: the bytes of which it is the listing were appended to `old`, or it is refused and nothing changed
abbrev pub Assembles : List ℕ → List ℕ → List ℕ → Result (Unit {0}) TextError → Type 0
Assembles text old new (Ok done) = (bytes : List ℕ) × IsListing text bytes × (new ≡ old ++ bytes)
Assembles text old new (Err why) = IsRefusedFor text why × (new ≡ old)

-- The words of a words file that is an input.
use Rattle.std.specs.Prelude.{ℕ, List, Result, Ok, Err}
use Rattle.lk_base.specs.Limits.{words_limit}
use Rattle.lk_base.specs.declared.word.RxWord.{RxWord}
use Rattle.lk_outside.specs.Files.{Files}
use Rattle.words_files.specs.WordsOfFile.{words_of_file}
use Rattle.words_files.specs.declared.error.WordsError.{WordsError}
use Rattle.run_stops.specs.declared.input_error.InputError.TheVariants as refused
use Rattle.run_stops.specs.Reading.{Refusal, of_input, behind, bytes_in}

-- what the bytes of the file of this name give
abbrev pub words_by : {W : Type 0} → List ℕ → Result (List W) WordsError → Result (List W) Refusal
words_by name (Ok words) = Ok words
words_by name (Err why) = Err (of_input name (refused.Words why))

-- the words in the file of this name as they were received, so that a word may be bad, or why it is refused: it is absent, too
-- large, or no words file
abbrev pub words_in : Files → List ℕ → Result (List RxWord) Refusal
words_in files name = behind (bytes_in files name words_limit) (λ bytes. words_by name (words_of_file bytes))

-- The words of a words file whose words were all sent, so that none is bad.
use Rattle.std.specs.Prelude.{ℕ, List, Result}
use Rattle.lk_base.specs.Limits.{words_limit}
use Rattle.lk_base.specs.declared.word.Word.{Word}
use Rattle.lk_outside.specs.Files.{Files}
use Rattle.words_files.specs.WordsOfFile.{sent_words_of_file}
use Rattle.run_stops.specs.Reading.{Refusal, behind, bytes_in}
use Rattle.run_stops.specs.WordsInputs.{words_by}

-- the words in the file of this name, or why it is refused: it is absent, too large, or has a word that was not sent or is not
-- whole
abbrev pub sent_words_in : Files → List ℕ → Result (List Word) Refusal
sent_words_in files name = behind (bytes_in files name words_limit) (λ bytes. words_by name (sent_words_of_file bytes))

-- The tags that a words file may have, and the words of a file with these tags.
use Rattle.std.specs.Prelude.{ℕ, Bool, List, Result}
use Rattle.words_files.specs.declared.error.WordsError.{WordsError}
use Rattle.words_files.specs.declared.file_word.FileWord.{FileWord}
use Rattle.words_files.specs.declared.tags.Tags.{Tags}
use Rattle.words_files.specs.declared.tags.Tags.TheVariants as tags
use Rattle.words_files.specs.WordsOfFile.{cut_file, file_word_in, given_from, has_unsent_tag, has_wrong_tag}

-- the byte at which a word begins is none of them
abbrev pub has_other_tag : Tags → List ℕ → Bool
has_other_tag tags.Sent word = has_unsent_tag word
has_other_tag tags.Received word = has_wrong_tag word

-- what these words of a file give, where the first of them stands at `offset`
abbrev pub file_words_from : Tags → ℕ → List (List ℕ) → Result (List FileWord) WordsError
file_words_from tags offset words = given_from (has_other_tag tags) file_word_in offset words

abbrev pub file_words : Tags → List ℕ → Result (List FileWord) WordsError
file_words tags bytes = file_words_from tags 0 (cut_file bytes)

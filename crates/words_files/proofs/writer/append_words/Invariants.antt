use Rattle.std.proofs.Common.{◌≡◌, ◌+◌, ◌*◌, ◌++◌, take, vec_len}
use Rattle.words_files.specs.WordsFile.{words_file}
use Rattle.words_files.proofs.writer.append_words.Given as goal

-- the file of the words before is there
abbrev pub invariant-loop-word : goal.invariant-loop-word
invariant-loop-word l = record { file : l.file.items ≡ l.fn.file.items ++ words_file (take l.word-index l.words); size : vec_len l.file ≡ vec_len l.fn.file + 9 * l.word-index }

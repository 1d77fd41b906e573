use Rattle.std.proofs.Common.{◌≡◌, ◌+◌, ◌*◌, ◌/◌, length}
use Rattle.std.specs.Result.{result_err}
use Rattle.words_files.specs.Tags.{file_words, file_words_from}
use Rattle.words_files.specs.WordsOfFile.{cut_file}
use Rattle.words_files.proofs.file_words.refusal_of.Given as goal

-- the refusal is that of the bytes that are left, after whole words
abbrev pub invariant-loop-rest : goal.invariant-loop-rest
invariant-loop-rest l = record {
  same : result_err (file_words l.tags l.bytes) ≡ result_err (file_words_from l.tags l.offset (cut_file l.rest));
  stands : l.offset + length l.rest ≡ length l.bytes;
  whole : l.offset ≡ 9 * (l.offset / 9);
}

abbrev pub decreases-loop-rest : goal.decreases-loop-rest
decreases-loop-rest l = length l.rest

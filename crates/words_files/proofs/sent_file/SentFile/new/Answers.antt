use Rattle.lk_base.specs.declared.word.Word.{Word}
use Rattle.words_files.specs.FileWord.{sent_of}
use Rattle.words_files.specs.declared.file_word.FileWord.{FileWord}
use Rattle.words_files.specs.WordsOfFile.{cut_file, file_word_in}
use Rattle.words_files.proofs.ReadAs.{given_as}
use Rattle.words_files.proofs.sent_file.SentFile.new.Goals as goal

pub returns-in-Ok : goal.returns-in-Ok
returns-in-Ok c = given_as FileWord Word file_word_in sent_of _ (cut_file c.args.bytes.items) c.in-Ok.words c.in-Ok.ensures

use Rattle.lk_base.specs.declared.word.RxWord.{RxWord}
use Rattle.words_files.specs.FileWord.{received_of}
use Rattle.words_files.specs.declared.file_word.FileWord.{FileWord}
use Rattle.words_files.specs.WordsOfFile.{cut_file, file_word_in}
use Rattle.words_files.proofs.ReadAs.{given_as}
use Rattle.words_files.proofs.file.WordsFile.new.Goals as goal

pub returns-in-Ok : goal.returns-in-Ok
returns-in-Ok c = given_as FileWord RxWord file_word_in received_of _ (cut_file c.args.bytes.items) c.in-Ok.words c.in-Ok.ensures

-- Each data word is received as it stands in the file.
use Rattle.std.proofs.Common.{◌∙◌, List, take, drop, ap}
use Rattle.lk_base.specs.declared.word.RxWord.{RxWord}
use Rattle.words_files.proofs.Copied.{received-copied}
use Rattle.words_files.proofs.file.WordsFile.copy_data.Goals as goal

pub returns-clause-copied : goal.returns-clause-copied
returns-clause-copied c =
    received-copied c.self.inside.words c.args.from c.copy_data.result (take c.copy_data.result c.copy_data.new.numbers) c.copy_data.ensures.copied
    ∙ ap (λ (ws : List RxWord). take c.copy_data.result (drop c.args.from ws)) c.self.view_is

use Rattle.std.proofs.Common.{rules}
use Rattle.word_text.proofs.line_of_word.word_line.Goals as goal

pub returns-in-Bad : goal.returns-in-Bad
returns-in-Bad c = search rules

use Rattle.std.proofs.Common.{rules}
use Rattle.word_text.proofs.line_of_code.code_line.Goals as goal

pub returns : goal.returns
returns c = search rules

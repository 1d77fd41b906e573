use Rattle.std.proofs.Common.{rules}
use Rattle.word_text.proofs.bytes_of_text.assemble.Goals as goal

pub returns-else-is_err-clause-answer : goal.returns-else-is_err-clause-answer
returns-else-is_err-clause-answer c = search rules

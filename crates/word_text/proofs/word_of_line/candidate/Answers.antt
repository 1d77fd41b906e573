use Rattle.std.proofs.Common.{ap, ◌∙◌}
use Rattle.words_files.specs.declared.file_word.FileWord.TheVariants as file
use Rattle.word_text.proofs.Words.{data-after, control-after, bad-after, fields-after}
use Rattle.word_text.proofs.word_of_line.candidate.Goals as goal

pub returns-in-Some : goal.returns-in-Some
returns-in-Some c word s e = ap file.Data c.number_of.ensures ∙ data-after c.args.line.now c.in-Some.digits.now word c.in-Some.ensures s e

pub returns-in-Some-after_start : goal.returns-in-Some-after_start
returns-in-Some-after_start c word s e = ap file.Control c.number_of-in-Some-after_start.ensures ∙ control-after c.args.line.now c.in-Some-after_start.digits.now word c.in-Some-after_start.ensures s e

pub returns-in-Some-after_start-2 : goal.returns-in-Some-after_start-2
returns-in-Some-after_start-2 c word s e = ap file.Bad c.number_of-in-Some-after_start-2.ensures ∙ bad-after c.args.line.now c.in-Some-after_start-2.digits.now word c.in-Some-after_start-2.ensures s e

pub returns : goal.returns
returns c word s e = fields-after c.args.line.now c.control_of.result word c.control_of.ensures c.in_default.ensures c.in_default-after_start.ensures c.in_default-after_start-2.ensures e

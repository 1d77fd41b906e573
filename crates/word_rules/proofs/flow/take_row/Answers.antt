use Rattle.word_rules.proofs.flow.take_row.Goals as goal

pub returns : goal.returns
returns c entries rows s = c.take_word.ensures entries rows c.args.row s c.valid_word.ensures

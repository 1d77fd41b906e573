use Rattle.word_rules.proofs.flow.take_word.Goals as goal

pub returns : goal.returns
returns c entries rows row s fields = c.take.ensures.stands entries rows row.slot row.word s fields

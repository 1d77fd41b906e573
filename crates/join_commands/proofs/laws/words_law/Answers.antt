use Rattle.join_commands.proofs.WordsLaws.{bytes_undo_words, join_gives_sent, join_undoes_burst}
use Rattle.join_commands.proofs.laws.words_law.Goals as goal

pub returns-clause-sent : goal.returns-clause-sent
returns-clause-sent c = join_gives_sent

pub returns-clause-clean : goal.returns-clause-clean
returns-clause-clean c = join_undoes_burst

pub returns-clause-bytes : goal.returns-clause-bytes
returns-clause-bytes c = bytes_undo_words

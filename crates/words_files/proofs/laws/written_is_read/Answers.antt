use Rattle.words_files.proofs.Again.{accepted-whole, sent_again, written-again}
use Rattle.words_files.proofs.laws.written_is_read.Goals as goal

pub returns-clause-read : goal.returns-clause-read
returns-clause-read c = written-again

pub returns-clause-sent : goal.returns-clause-sent
returns-clause-sent c = sent_again

pub returns-clause-whole : goal.returns-clause-whole
returns-clause-whole c = accepted-whole

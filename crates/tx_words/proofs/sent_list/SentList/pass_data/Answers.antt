use Rattle.tx_words.proofs.DataWords.{behind_run}
use Rattle.tx_words.proofs.sent_list.SentList.pass_data.Goals as goal

pub returns : goal.returns
returns c p numbers room k long = behind_run numbers c.args.self.now p room c.args.count k long

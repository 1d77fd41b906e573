use Rattle.std.proofs.Common.{rules}
use Rattle.tx_words.proofs.sent_list.SentList.into_sent.Goals as goal

pub returns : goal.returns
returns c = search rules

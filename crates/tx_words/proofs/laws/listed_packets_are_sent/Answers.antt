use Rattle.tx_words.proofs.ListedSent.{lists_the_sent, starts_its_packets, one_list}
use Rattle.tx_words.proofs.NumbersLaw.{numbers_are_packets, starts_are_few}
use Rattle.tx_words.proofs.SomeList.{some_list}
use Rattle.tx_words.proofs.laws.listed_packets_are_sent.Goals as goal

pub returns-clause-sent : goal.returns-clause-sent
returns-clause-sent c = lists_the_sent

pub returns-clause-few : goal.returns-clause-few
returns-clause-few c = starts_its_packets

pub returns-clause-one : goal.returns-clause-one
returns-clause-one c = one_list

pub returns-clause-some : goal.returns-clause-some
returns-clause-some c = some_list

pub returns-clause-numbers : goal.returns-clause-numbers
returns-clause-numbers c = numbers_are_packets

pub returns-clause-starts : goal.returns-clause-starts
returns-clause-starts c = starts_are_few

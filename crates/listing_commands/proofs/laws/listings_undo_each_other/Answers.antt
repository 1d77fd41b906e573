use Rattle.listing_commands.proofs.Undone.{assemble-undoes-list, list-undoes-assemble, one-file-of-text}
use Rattle.listing_commands.proofs.laws.listings_undo_each_other.Goals as goal

pub returns-clause-assembled : goal.returns-clause-assembled
returns-clause-assembled c = assemble-undoes-list

pub returns-clause-listed : goal.returns-clause-listed
returns-clause-listed c = list-undoes-assemble

pub returns-clause-one_file : goal.returns-clause-one_file
returns-clause-one_file c = one-file-of-text

use Rattle.listing_commands.proofs.Worked.{one-byte-listed, one-byte-assembled, second-spelling-refused}
use Rattle.listing_commands.proofs.laws.worked_files.Goals as goal

pub returns-clause-listed : goal.returns-clause-listed
returns-clause-listed c = one-byte-listed

pub returns-clause-assembled : goal.returns-clause-assembled
returns-clause-assembled c = one-byte-assembled

pub returns-clause-refused : goal.returns-clause-refused
returns-clause-refused c = second-spelling-refused

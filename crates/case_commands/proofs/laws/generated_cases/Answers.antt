use Rattle.case_commands.proofs.CaseRead.{case_read}
use Rattle.case_commands.proofs.GenerateWork.{is_done}
use Rattle.case_commands.proofs.Generates.{generates_and_links, generated_differ}
use Rattle.case_commands.proofs.laws.generated_cases.Goals as goal

pub returns-clause-read_back : goal.returns-clause-read_back
returns-clause-read_back c a old mid is here = case_read a.number a.prefix old mid is here

pub returns-clause-links : goal.returns-clause-links
returns-clause-links c = generates_and_links

pub returns-clause-done : goal.returns-clause-done
returns-clause-done c a files o h = is_done a o h

pub returns-clause-differ : goal.returns-clause-differ
returns-clause-differ c = generated_differ

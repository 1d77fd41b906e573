use Rattle.case_commands.proofs.CaseDelivers.{case_delivers, case_sends_all, case_spans_narrow, case_tells_missing, clean_case_delivers}
use Rattle.case_commands.proofs.laws.case_delivery_theorem.Goals as goal

pub returns-clause-delivers : goal.returns-clause-delivers
returns-clause-delivers c = case_delivers

pub returns-clause-clean : goal.returns-clause-clean
returns-clause-clean c = clean_case_delivers

pub returns-clause-sends_all : goal.returns-clause-sends_all
returns-clause-sends_all c = case_sends_all

pub returns-clause-narrow : goal.returns-clause-narrow
returns-clause-narrow c = case_spans_narrow

pub returns-clause-missing : goal.returns-clause-missing
returns-clause-missing c = case_tells_missing

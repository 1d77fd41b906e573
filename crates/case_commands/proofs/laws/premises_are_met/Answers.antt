-- Proved above.
use Rattle.case_commands.proofs.CleanCase.{clean_cases_meet}
use Rattle.case_commands.proofs.laws.premises_are_met.Goals as goal

pub returns : goal.returns
returns c = clean_cases_meet

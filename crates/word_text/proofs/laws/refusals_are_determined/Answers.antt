use Rattle.word_text.proofs.Causes.{refused-never, one-cause}
use Rattle.word_text.proofs.Verdict.{verdict}
use Rattle.word_text.proofs.laws.refusals_are_determined.Goals as goal

pub returns-clause-no_file : goal.returns-clause-no_file
returns-clause-no_file c = refused-never

pub returns-clause-one_cause : goal.returns-clause-one_cause
returns-clause-one_cause c = one-cause

pub returns-clause-either : goal.returns-clause-either
returns-clause-either c = verdict

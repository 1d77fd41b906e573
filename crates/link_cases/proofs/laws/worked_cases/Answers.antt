use Rattle.std.proofs.Common.{refl}
use Rattle.std.specs.Fmt.{digits}
use Rattle.csv.specs.Writing.{escaped, fields_text, is_blank}
use Rattle.link_cases.specs.Draws.{next_state, many}
use Rattle.link_cases.specs.Case.{numbers_drawn, case_of}
use Rattle.csv_rows.specs.Written.{rows_text}
use Rattle.link_cases.specs.Texts.{link_rows, name_rows}
use Rattle.link_cases.proofs.laws.worked_cases.Goals as goal

pub returns-clause-numbers_of_0 : goal.returns-clause-numbers_of_0
unfolding next_state numbers_drawn
returns-clause-numbers_of_0 c = refl

pub returns-clause-numbers_of_7 : goal.returns-clause-numbers_of_7
unfolding next_state numbers_drawn
returns-clause-numbers_of_7 c = refl

pub returns-clause-whole : goal.returns-clause-whole
unfolding next_state many numbers_drawn case_of
returns-clause-whole c = refl

pub returns-clause-plan : goal.returns-clause-plan
unfolding digits escaped fields_text is_blank rows_text link_rows name_rows
returns-clause-plan c = refl

pub returns-clause-schedule : goal.returns-clause-schedule
unfolding digits escaped fields_text is_blank rows_text
returns-clause-schedule c = refl

pub returns-clause-quoted : goal.returns-clause-quoted
unfolding digits escaped fields_text is_blank rows_text name_rows
returns-clause-quoted c = refl

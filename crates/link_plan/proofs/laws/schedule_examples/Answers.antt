use Rattle.std.proofs.Common.{refl}
use lib.Utf8.{encode}
use Rattle.std.specs.Str.{is_utf8, chars}
use Rattle.csv_rows.specs.Behind.{said_behind}
use Rattle.csv_rows.specs.Fields.{number_of, decimal_from}
use Rattle.link_plan.specs.Schedules.{schedule_row, schedule_behind}
use Rattle.link_plan.proofs.laws.schedule_examples.Goals as goal

pub returns-clause-whole : goal.returns-clause-whole
unfolding is_utf8 chars encode number_of decimal_from schedule_row schedule_behind said_behind
returns-clause-whole c = refl

pub returns-clause-none : goal.returns-clause-none
unfolding is_utf8 chars encode number_of decimal_from schedule_row schedule_behind said_behind
returns-clause-none c = refl

pub returns-clause-key : goal.returns-clause-key
unfolding is_utf8 chars encode number_of decimal_from schedule_row schedule_behind said_behind
returns-clause-key c = refl

pub returns-clause-fields : goal.returns-clause-fields
unfolding is_utf8 chars encode number_of decimal_from schedule_row schedule_behind said_behind
returns-clause-fields c = refl

pub returns-clause-dark_fields : goal.returns-clause-dark_fields
unfolding is_utf8 chars encode number_of decimal_from schedule_row schedule_behind said_behind
returns-clause-dark_fields c = refl

pub returns-clause-number : goal.returns-clause-number
unfolding is_utf8 chars encode number_of decimal_from schedule_row schedule_behind said_behind
returns-clause-number c = refl

pub returns-clause-lane : goal.returns-clause-lane
unfolding is_utf8 chars encode number_of decimal_from schedule_row schedule_behind said_behind
returns-clause-lane c = refl

pub returns-clause-bits : goal.returns-clause-bits
unfolding is_utf8 chars encode number_of decimal_from schedule_row schedule_behind said_behind
returns-clause-bits c = refl

pub returns-clause-bit : goal.returns-clause-bit
unfolding is_utf8 chars encode number_of decimal_from schedule_row schedule_behind said_behind
returns-clause-bit c = refl

pub returns-clause-no_count : goal.returns-clause-no_count
unfolding is_utf8 chars encode number_of decimal_from schedule_row schedule_behind said_behind
returns-clause-no_count c = refl

pub returns-clause-again : goal.returns-clause-again
unfolding is_utf8 chars encode number_of decimal_from schedule_row schedule_behind said_behind
returns-clause-again c = refl

pub returns-clause-range_first : goal.returns-clause-range_first
unfolding is_utf8 chars encode number_of decimal_from schedule_row schedule_behind said_behind
returns-clause-range_first c = refl

use Rattle.std.proofs.Common.{refl}
use lib.Utf8.{encode}
use Rattle.std.specs.Str.{is_utf8, chars}
use Rattle.csv_rows.specs.Fields.{number_of, decimal_from}
use Rattle.csv_rows.specs.Behind.{said_behind}
use Rattle.resend_events.specs.Events.{event_row}
use Rattle.resend_events.proofs.laws.event_examples.Goals as goal

pub returns-clause-sent_and_lost : goal.returns-clause-sent_and_lost
unfolding is_utf8 chars encode number_of decimal_from event_row said_behind
returns-clause-sent_and_lost c = refl

pub returns-clause-repeated : goal.returns-clause-repeated
unfolding is_utf8 chars encode number_of decimal_from event_row said_behind
returns-clause-repeated c = refl

pub returns-clause-none : goal.returns-clause-none
unfolding is_utf8 chars encode number_of decimal_from event_row said_behind
returns-clause-none c = refl

pub returns-clause-unknown : goal.returns-clause-unknown
unfolding is_utf8 chars encode number_of decimal_from event_row said_behind
returns-clause-unknown c = refl

pub returns-clause-case : goal.returns-clause-case
unfolding is_utf8 chars encode number_of decimal_from event_row said_behind
returns-clause-case c = refl

pub returns-clause-not_text : goal.returns-clause-not_text
unfolding is_utf8 chars encode number_of decimal_from event_row said_behind
returns-clause-not_text c = refl

pub returns-clause-key_first : goal.returns-clause-key_first
unfolding is_utf8 chars encode number_of decimal_from event_row said_behind
returns-clause-key_first c = refl

pub returns-clause-one_field : goal.returns-clause-one_field
unfolding is_utf8 chars encode number_of decimal_from event_row said_behind
returns-clause-one_field c = refl

pub returns-clause-fields_first : goal.returns-clause-fields_first
unfolding is_utf8 chars encode number_of decimal_from event_row said_behind
returns-clause-fields_first c = refl

pub returns-clause-not_a_number : goal.returns-clause-not_a_number
unfolding is_utf8 chars encode number_of decimal_from event_row said_behind
returns-clause-not_a_number c = refl

pub returns-clause-no_times : goal.returns-clause-no_times
unfolding is_utf8 chars encode number_of decimal_from event_row said_behind
returns-clause-no_times c = refl

pub returns-clause-most : goal.returns-clause-most
unfolding is_utf8 chars encode number_of decimal_from event_row said_behind
returns-clause-most c = refl

pub returns-clause-above_most : goal.returns-clause-above_most
unfolding is_utf8 chars encode number_of decimal_from event_row said_behind
returns-clause-above_most c = refl

pub returns-clause-above_together : goal.returns-clause-above_together
unfolding is_utf8 chars encode number_of decimal_from event_row said_behind
returns-clause-above_together c = refl

use Rattle.std.proofs.Common.{refl}
use lib.Utf8.{encode}
use Rattle.std.specs.Str.{is_utf8, chars}
use Rattle.csv_rows.specs.Fields.{number_of, decimal_from}
use Rattle.csv_rows.specs.Behind.{said_behind}
use Rattle.duplex_plan.specs.Rows.{duplex_row, duplex_behind}
use Rattle.duplex_plan.specs.Duplex.{backs_from}
use Rattle.duplex_plan.proofs.laws.duplex_examples.Goals as goal

pub returns-clause-short : goal.returns-clause-short
unfolding is_utf8 chars encode number_of decimal_from duplex_row duplex_behind backs_from said_behind
returns-clause-short c = refl

pub returns-clause-every_key : goal.returns-clause-every_key
unfolding is_utf8 chars encode number_of decimal_from duplex_row duplex_behind backs_from said_behind
returns-clause-every_key c = refl

pub returns-clause-no_plan : goal.returns-clause-no_plan
unfolding is_utf8 chars encode number_of decimal_from duplex_row duplex_behind backs_from said_behind
returns-clause-no_plan c = refl

pub returns-clause-no_delay : goal.returns-clause-no_delay
unfolding is_utf8 chars encode number_of decimal_from duplex_row duplex_behind backs_from said_behind
returns-clause-no_delay c = refl

pub returns-clause-no_mark : goal.returns-clause-no_mark
unfolding is_utf8 chars encode number_of decimal_from duplex_row duplex_behind backs_from said_behind
returns-clause-no_mark c = refl

pub returns-clause-no_slots : goal.returns-clause-no_slots
unfolding is_utf8 chars encode number_of decimal_from duplex_row duplex_behind backs_from said_behind
returns-clause-no_slots c = refl

pub returns-clause-no_out : goal.returns-clause-no_out
unfolding is_utf8 chars encode number_of decimal_from duplex_row duplex_behind backs_from said_behind
returns-clause-no_out c = refl

pub returns-clause-empty : goal.returns-clause-empty
unfolding is_utf8 chars encode number_of decimal_from duplex_row duplex_behind backs_from said_behind
returns-clause-empty c = refl

pub returns-clause-fault_first : goal.returns-clause-fault_first
unfolding is_utf8 chars encode number_of decimal_from duplex_row duplex_behind backs_from said_behind
returns-clause-fault_first c = refl

pub returns-clause-unknown : goal.returns-clause-unknown
unfolding is_utf8 chars encode number_of decimal_from duplex_row duplex_behind backs_from said_behind
returns-clause-unknown c = refl

pub returns-clause-not_text : goal.returns-clause-not_text
unfolding is_utf8 chars encode number_of decimal_from duplex_row duplex_behind backs_from said_behind
returns-clause-not_text c = refl

pub returns-clause-no_capture : goal.returns-clause-no_capture
unfolding is_utf8 chars encode number_of decimal_from duplex_row duplex_behind backs_from said_behind
returns-clause-no_capture c = refl

pub returns-clause-fields_first : goal.returns-clause-fields_first
unfolding is_utf8 chars encode number_of decimal_from duplex_row duplex_behind backs_from said_behind
returns-clause-fields_first c = refl

pub returns-clause-not_a_number : goal.returns-clause-not_a_number
unfolding is_utf8 chars encode number_of decimal_from duplex_row duplex_behind backs_from said_behind
returns-clause-not_a_number c = refl

pub returns-clause-empty_capture : goal.returns-clause-empty_capture
unfolding is_utf8 chars encode number_of decimal_from duplex_row duplex_behind backs_from said_behind
returns-clause-empty_capture c = refl

pub returns-clause-no_channel : goal.returns-clause-no_channel
unfolding is_utf8 chars encode number_of decimal_from duplex_row duplex_behind backs_from said_behind
returns-clause-no_channel c = refl

pub returns-clause-same_channel : goal.returns-clause-same_channel
unfolding is_utf8 chars encode number_of decimal_from duplex_row duplex_behind backs_from said_behind
returns-clause-same_channel c = refl

pub returns-clause-late : goal.returns-clause-late
unfolding is_utf8 chars encode number_of decimal_from duplex_row duplex_behind backs_from said_behind
returns-clause-late c = refl

pub returns-clause-no_words : goal.returns-clause-no_words
unfolding is_utf8 chars encode number_of decimal_from duplex_row duplex_behind backs_from said_behind
returns-clause-no_words c = refl

pub returns-clause-many_slots : goal.returns-clause-many_slots
unfolding is_utf8 chars encode number_of decimal_from duplex_row duplex_behind backs_from said_behind
returns-clause-many_slots c = refl

pub returns-clause-never_drained : goal.returns-clause-never_drained
unfolding is_utf8 chars encode number_of decimal_from duplex_row duplex_behind backs_from said_behind
returns-clause-never_drained c = refl

pub returns-clause-empty_out : goal.returns-clause-empty_out
unfolding is_utf8 chars encode number_of decimal_from duplex_row duplex_behind backs_from said_behind
returns-clause-empty_out c = refl

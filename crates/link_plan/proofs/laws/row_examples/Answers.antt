use Rattle.std.proofs.Common.{refl}
use lib.Utf8.{encode}
use Rattle.std.specs.Str.{is_utf8, chars}
use Rattle.csv_rows.specs.Fields.{number_of, decimal_from}
use Rattle.csv_rows.specs.Behind.{said_behind}
use Rattle.link_plan.specs.Timed.{hex_from, word_of, state_of, flow_row, local_row, flow_behind, local_behind}
use Rattle.link_plan.proofs.laws.row_examples.Goals as goal

pub returns-clause-flow : goal.returns-clause-flow
unfolding is_utf8 chars encode number_of decimal_from hex_from word_of state_of flow_row local_row flow_behind local_behind said_behind
returns-clause-flow c = refl

pub returns-clause-long_word : goal.returns-clause-long_word
unfolding is_utf8 chars encode number_of decimal_from hex_from word_of state_of flow_row local_row flow_behind local_behind said_behind
returns-clause-long_word c = refl

pub returns-clause-late_slot : goal.returns-clause-late_slot
unfolding is_utf8 chars encode number_of decimal_from hex_from word_of state_of flow_row local_row flow_behind local_behind said_behind
returns-clause-late_slot c = refl

pub returns-clause-number_first : goal.returns-clause-number_first
unfolding is_utf8 chars encode number_of decimal_from hex_from word_of state_of flow_row local_row flow_behind local_behind said_behind
returns-clause-number_first c = refl

pub returns-clause-back : goal.returns-clause-back
unfolding is_utf8 chars encode number_of decimal_from hex_from word_of state_of flow_row local_row flow_behind local_behind said_behind
returns-clause-back c = refl

pub returns-clause-local : goal.returns-clause-local
unfolding is_utf8 chars encode number_of decimal_from hex_from word_of state_of flow_row local_row flow_behind local_behind said_behind
returns-clause-local c = refl

pub returns-clause-two_fields : goal.returns-clause-two_fields
unfolding is_utf8 chars encode number_of decimal_from hex_from word_of state_of flow_row local_row flow_behind local_behind said_behind
returns-clause-two_fields c = refl

pub returns-clause-no_state : goal.returns-clause-no_state
unfolding is_utf8 chars encode number_of decimal_from hex_from word_of state_of flow_row local_row flow_behind local_behind said_behind
returns-clause-no_state c = refl

pub returns-clause-no_channel : goal.returns-clause-no_channel
unfolding is_utf8 chars encode number_of decimal_from hex_from word_of state_of flow_row local_row flow_behind local_behind said_behind
returns-clause-no_channel c = refl

pub returns-clause-unlisted : goal.returns-clause-unlisted
unfolding is_utf8 chars encode number_of decimal_from hex_from word_of state_of flow_row local_row flow_behind local_behind said_behind
returns-clause-unlisted c = refl

pub returns-clause-wide_local : goal.returns-clause-wide_local
unfolding is_utf8 chars encode number_of decimal_from hex_from word_of state_of flow_row local_row flow_behind local_behind said_behind
returns-clause-wide_local c = refl

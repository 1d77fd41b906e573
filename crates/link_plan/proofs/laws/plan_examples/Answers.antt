use Rattle.std.proofs.Common.{refl}
use lib.Utf8.{encode}
use Rattle.std.specs.Str.{is_utf8, chars}
use Rattle.csv_rows.specs.Fields.{number_of, decimal_from}
use Rattle.csv_rows.specs.Tables.{place_in}
use Rattle.csv_rows.specs.Items.{item_of}
use Rattle.csv_rows.specs.Checked.{value_of, text_of, later_fault, first_fault}
use Rattle.link_plan.specs.Keys.{keys, place, number, row_of}
use Rattle.link_plan.specs.Listing.{channels_in_order}
use Rattle.link_plan.specs.Plan.{missing, clashes, first_clash, plan_from, plan_of}
use Rattle.link_plan.proofs.laws.plan_examples.Goals as goal

pub returns-clause-whole : goal.returns-clause-whole
unfolding is_utf8 chars encode number_of decimal_from place_in item_of value_of text_of later_fault first_fault keys place number row_of channels_in_order missing clashes first_clash plan_from plan_of
returns-clause-whole c = refl

pub returns-clause-files : goal.returns-clause-files
unfolding is_utf8 chars encode number_of decimal_from place_in item_of value_of text_of later_fault first_fault keys place number row_of channels_in_order missing clashes first_clash plan_from plan_of
returns-clause-files c = refl

pub returns-clause-defaults : goal.returns-clause-defaults
unfolding place_in value_of text_of keys place number row_of plan_from
returns-clause-defaults c = refl

pub returns-clause-every_key : goal.returns-clause-every_key
unfolding is_utf8 chars encode number_of decimal_from place_in item_of value_of text_of later_fault first_fault keys place number row_of channels_in_order missing clashes first_clash plan_from plan_of
returns-clause-every_key c = refl

pub returns-clause-range : goal.returns-clause-range
unfolding is_utf8 chars encode number_of decimal_from place_in item_of value_of text_of later_fault first_fault keys place number row_of channels_in_order missing clashes first_clash plan_from plan_of
returns-clause-range c = refl

pub returns-clause-repeat : goal.returns-clause-repeat
unfolding is_utf8 chars encode number_of decimal_from place_in item_of value_of text_of later_fault first_fault keys place number row_of channels_in_order missing clashes first_clash plan_from plan_of
returns-clause-repeat c = refl

pub returns-clause-missing : goal.returns-clause-missing
unfolding is_utf8 chars encode number_of decimal_from place_in item_of value_of text_of later_fault first_fault keys place number row_of channels_in_order missing clashes first_clash plan_from plan_of
returns-clause-missing c = refl

pub returns-clause-empty : goal.returns-clause-empty
unfolding is_utf8 chars encode number_of decimal_from place_in item_of value_of text_of later_fault first_fault keys place number row_of channels_in_order missing clashes first_clash plan_from plan_of
returns-clause-empty c = refl

pub returns-clause-unknown : goal.returns-clause-unknown
unfolding is_utf8 chars encode number_of decimal_from place_in item_of value_of text_of later_fault first_fault keys place number row_of channels_in_order missing clashes first_clash plan_from plan_of
returns-clause-unknown c = refl

pub returns-clause-deskew : goal.returns-clause-deskew
unfolding is_utf8 chars encode number_of decimal_from place_in item_of value_of text_of later_fault first_fault keys place number row_of channels_in_order missing clashes first_clash plan_from plan_of
returns-clause-deskew c = refl

pub returns-clause-half : goal.returns-clause-half
unfolding is_utf8 chars encode number_of decimal_from place_in item_of value_of text_of later_fault first_fault keys place number row_of channels_in_order missing clashes first_clash plan_from plan_of
returns-clause-half c = refl

pub returns-clause-entry : goal.returns-clause-entry
unfolding is_utf8 chars encode number_of decimal_from place_in item_of value_of text_of later_fault first_fault keys place number row_of channels_in_order missing clashes first_clash plan_from plan_of
returns-clause-entry c = refl

pub returns-clause-entry_row : goal.returns-clause-entry_row
unfolding is_utf8 chars encode number_of decimal_from place_in item_of value_of text_of later_fault first_fault keys place number row_of channels_in_order missing clashes first_clash plan_from plan_of
returns-clause-entry_row c = refl

pub returns-clause-wide : goal.returns-clause-wide
unfolding is_utf8 chars encode number_of decimal_from place_in item_of value_of text_of later_fault first_fault keys place number row_of channels_in_order missing clashes first_clash plan_from plan_of
returns-clause-wide c = refl

pub returns-clause-narrow : goal.returns-clause-narrow
unfolding is_utf8 chars encode number_of decimal_from place_in item_of value_of text_of later_fault first_fault keys place number row_of channels_in_order missing clashes first_clash plan_from plan_of
returns-clause-narrow c = refl

pub returns-clause-told_narrow : goal.returns-clause-told_narrow
unfolding is_utf8 chars encode number_of decimal_from place_in item_of value_of text_of later_fault first_fault keys place number row_of channels_in_order missing clashes first_clash plan_from plan_of
returns-clause-told_narrow c = refl

pub returns-clause-no_channel : goal.returns-clause-no_channel
unfolding is_utf8 chars encode number_of decimal_from place_in item_of value_of text_of later_fault first_fault keys place number row_of channels_in_order missing clashes first_clash plan_from plan_of
returns-clause-no_channel c = refl

pub returns-clause-no_width : goal.returns-clause-no_width
unfolding is_utf8 chars encode number_of decimal_from place_in item_of value_of text_of later_fault first_fault keys place number row_of channels_in_order missing clashes first_clash plan_from plan_of
returns-clause-no_width c = refl

pub returns-clause-width_again : goal.returns-clause-width_again
unfolding is_utf8 chars encode number_of decimal_from place_in item_of value_of text_of later_fault first_fault keys place number row_of channels_in_order missing clashes first_clash plan_from plan_of
returns-clause-width_again c = refl

pub returns-clause-burst_min : goal.returns-clause-burst_min
unfolding is_utf8 chars encode number_of decimal_from place_in item_of value_of text_of later_fault first_fault keys place number row_of channels_in_order missing clashes first_clash plan_from plan_of
returns-clause-burst_min c = refl

pub returns-clause-half_burst : goal.returns-clause-half_burst
unfolding is_utf8 chars encode number_of decimal_from place_in item_of value_of text_of later_fault first_fault keys place number row_of channels_in_order missing clashes first_clash plan_from plan_of
returns-clause-half_burst c = refl

pub returns-clause-no_burst_min : goal.returns-clause-no_burst_min
unfolding is_utf8 chars encode number_of decimal_from place_in item_of value_of text_of later_fault first_fault keys place number row_of channels_in_order missing clashes first_clash plan_from plan_of
returns-clause-no_burst_min c = refl

pub returns-clause-no_window : goal.returns-clause-no_window
unfolding is_utf8 chars encode number_of decimal_from place_in item_of value_of text_of later_fault first_fault keys place number row_of channels_in_order missing clashes first_clash plan_from plan_of
returns-clause-no_window c = refl

pub returns-clause-no_events : goal.returns-clause-no_events
unfolding is_utf8 chars encode number_of decimal_from place_in item_of value_of text_of later_fault first_fault keys place number row_of channels_in_order missing clashes first_clash plan_from plan_of
returns-clause-no_events c = refl

pub returns-clause-fault_first : goal.returns-clause-fault_first
unfolding is_utf8 chars encode number_of decimal_from place_in item_of value_of text_of later_fault first_fault keys place number row_of channels_in_order missing clashes first_clash plan_from plan_of
returns-clause-fault_first c = refl

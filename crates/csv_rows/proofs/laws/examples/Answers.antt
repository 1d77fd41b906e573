use Rattle.std.proofs.Common.{refl}
use lib.Utf8.{encode}
use Rattle.std.specs.Str.{is_utf8, chars}
use Rattle.csv.proofs.OnLiterals.{csv_on_literals}
use Rattle.csv_rows.specs.Fields.{number_of, decimal_from}
use Rattle.csv_rows.specs.Tables.{place_in}
use Rattle.csv_rows.specs.Items.{item_of}
use Rattle.csv_rows.specs.Checked.{later_fault, first_fault}
use Rattle.csv_rows.proofs.laws.examples.Goals as goal

pub returns-clause-marked : goal.returns-clause-marked
unfolding csv_on_literals
returns-clause-marked c = refl

pub returns-clause-quoted : goal.returns-clause-quoted
unfolding csv_on_literals
returns-clause-quoted c = refl

pub returns-clause-blank : goal.returns-clause-blank
unfolding csv_on_literals
returns-clause-blank c = refl

pub returns-clause-leading_zeros : goal.returns-clause-leading_zeros
unfolding is_utf8 chars encode number_of decimal_from place_in item_of later_fault first_fault
returns-clause-leading_zeros c = refl

pub returns-clause-sixteen_digits : goal.returns-clause-sixteen_digits
unfolding is_utf8 chars encode number_of decimal_from place_in item_of later_fault first_fault
returns-clause-sixteen_digits c = refl

pub returns-clause-no_digit : goal.returns-clause-no_digit
unfolding is_utf8 chars encode number_of decimal_from place_in item_of later_fault first_fault
returns-clause-no_digit c = refl

pub returns-clause-single : goal.returns-clause-single
unfolding is_utf8 chars encode number_of decimal_from place_in item_of later_fault first_fault
returns-clause-single c = refl

pub returns-clause-case : goal.returns-clause-case
unfolding is_utf8 chars encode number_of decimal_from place_in item_of later_fault first_fault
returns-clause-case c = refl

pub returns-clause-not_a_multiple : goal.returns-clause-not_a_multiple
unfolding is_utf8 chars encode number_of decimal_from place_in item_of later_fault first_fault
returns-clause-not_a_multiple c = refl

pub returns-clause-not_a_number : goal.returns-clause-not_a_number
unfolding is_utf8 chars encode number_of decimal_from place_in item_of later_fault first_fault
returns-clause-not_a_number c = refl

pub returns-clause-no_field : goal.returns-clause-no_field
unfolding is_utf8 chars encode number_of decimal_from place_in item_of later_fault first_fault
returns-clause-no_field c = refl

pub returns-clause-not_text : goal.returns-clause-not_text
unfolding is_utf8 chars encode number_of decimal_from place_in item_of later_fault first_fault
returns-clause-not_text c = refl

pub returns-clause-with_text : goal.returns-clause-with_text
unfolding is_utf8 chars encode number_of decimal_from place_in item_of later_fault first_fault
returns-clause-with_text c = refl

pub returns-clause-empty_text : goal.returns-clause-empty_text
unfolding is_utf8 chars encode number_of decimal_from place_in item_of later_fault first_fault
returns-clause-empty_text c = refl

pub returns-clause-long_text : goal.returns-clause-long_text
unfolding is_utf8 chars encode number_of decimal_from place_in item_of later_fault first_fault
returns-clause-long_text c = refl

pub returns-clause-twice : goal.returns-clause-twice
unfolding is_utf8 chars encode number_of decimal_from place_in item_of later_fault first_fault
returns-clause-twice c = refl

pub returns-clause-too_many : goal.returns-clause-too_many
unfolding is_utf8 chars encode number_of decimal_from place_in item_of later_fault first_fault
returns-clause-too_many c = refl

pub returns-clause-same_number : goal.returns-clause-same_number
unfolding is_utf8 chars encode number_of decimal_from place_in item_of later_fault first_fault
returns-clause-same_number c = refl

pub returns-clause-range_first : goal.returns-clause-range_first
unfolding is_utf8 chars encode number_of decimal_from place_in item_of later_fault first_fault
returns-clause-range_first c = refl

pub returns-clause-clean : goal.returns-clause-clean
unfolding is_utf8 chars encode number_of decimal_from place_in item_of later_fault first_fault
returns-clause-clean c = refl

use Rattle.std.proofs.Common.{◌≡◌, ◌<◌, ◌^◌, true, drop}
use Rattle.std.specs.List.{list_all}
use Rattle.std.specs.Char.{is_ascii_digit}
use Rattle.csv_rows.specs.Fields.{decimal_from}
use Rattle.command_words.proofs.digits.decimal.Given as goal

-- the digits that are left lead from the number to the whole
abbrev pub invariant-loop-b : goal.invariant-loop-b
invariant-loop-b l = record {
  value : decimal_from l.number (drop l.b-index l.bytes) ≡ decimal_from 0 l.bytes;
  digits : list_all is_ascii_digit (drop l.b-index l.bytes) ≡ true;
  small : l.number < 10 ^ l.b-index;
}

-- What the parser of command lines is given, and what it gives back.
use Rattle.std.specs.Prelude.{◌≡◌, List, [], ◌∷◌, Option, Some, option_map, option_and_then, true, codes}
use Rattle.clap.specs.Words.{App, Row, Rule, Text, first_of, new_app, new_rule, subcommand_rows_of, with_rule, with_subcommand}
use Rattle.clap.specs.declared.parser.matches.ArgMatches.{ArgMatches}
use Rattle.command_words.specs.Table.{Kind}
use Rattle.command_words.specs.declared.table.Rule.TheVariants.{File, NumberAndPrefix}
use Rattle.command_words.specs.declared.table.Rule.{Rule as Arguments}
use Rattle.command_words.specs.CommandLine.{before}

-- a value that has to be given
abbrev pub value_rule : Text → Rule
value_rule name = record (new_rule name) { required = true }

-- a command of this name, with its file
abbrev pub file_app : Text → App
file_app name = with_rule (new_app name) (value_rule (codes "file"))

-- a command of this name, with a number and a prefix of files
abbrev pub number_app : Text → App
number_app name = with_rule (with_rule (new_app name) (value_rule (codes "number"))) (value_rule (codes "file"))

abbrev pub app_by : Arguments → Text → App
app_by File name = file_app name
app_by NumberAndPrefix name = number_app name

abbrev pub row_app : Kind → App
row_app row = app_by row.rule row.word

-- the program before its commands: the words come without its name, one of them names a command, and none calls for help
abbrev pub bare_app : App
bare_app = record (new_app (codes "interlaken")) {
  top = record (new_app (codes "interlaken")).top {
    no_binary_name = true;
    disable_help_flag = true;
    disable_help_subcommand = true;
    subcommand_required = true;
  };
}

-- a program with the commands of a table
abbrev pub program_app : App → List Kind → App
program_app app [] = app
program_app app (row ∷ more) = program_app (with_subcommand app (row_app row).top) more

-- the command that was found, with its number and its file
abbrev pub words_in : Option (Text × List Row) → Option (List Text)
words_in = option_and_then (λ p. option_map (λ file. p.0 ∷ before (first_of (codes "number") p.1) file) (first_of (codes "file") p.1))

-- the command and the arguments that were found are these words
abbrev pub IsReadAs : List Text → ArgMatches → Type 0
IsReadAs words m = words_in (subcommand_rows_of m) ≡ Some words

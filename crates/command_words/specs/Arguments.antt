-- What a command is given: a number, where its rule asks for one, and a file or a prefix of files.
use Rattle.std.specs.Prelude.{ℕ, ◌^◌, Bool, not, ◌&&◌, List, [], ◌∷◌, length, nat_le, nat_lt, nat_eq, slice_index, Option, Some, None, if◌then◌else◌}
use Rattle.std.specs.List.{list_all}
use Rattle.std.specs.Char.{is_ascii_digit}
use Rattle.csv_rows.specs.Fields.{decimal_from}
use Rattle.command_words.specs.declared.table.Rule.{Rule}
use Rattle.command_words.specs.declared.table.Rule.TheVariants.{File, NumberAndPrefix}
use Rattle.command_words.specs.Given.{Given}

-- a word that is not empty, does not begin with a dash (45), and has at most this many bytes
abbrev pub is_name : ℕ → List ℕ → Bool
is_name most word = nat_lt 0 (length word) && not (nat_eq (slice_index word 0) 45) && nat_le (length word) most

-- 1 to 20 decimal digits, with zeros before or without, that spell a number below 2^64
abbrev pub is_number : List ℕ → Bool
is_number word = nat_le 1 (length word) && nat_le (length word) 20 && list_all is_ascii_digit word && nat_lt (decimal_from 0 word) (2 ^ 64)

abbrev pub number_of_word : List ℕ → Option ℕ
number_of_word word = if is_number word then Some (decimal_from 0 word) else None

-- a file's name has at most 255 bytes
abbrev pub file_in : List ℕ → Option Given
file_in file = if is_name 255 file then Some (record { number = 0; file = file }) else None

-- a prefix has at most 180 bytes
abbrev pub prefix_in : ℕ → List ℕ → Option Given
prefix_in number prefix = if is_name 180 prefix then Some (record { number = number; file = prefix }) else None

abbrev pub number_and_prefix_in : Option ℕ → List ℕ → Option Given
number_and_prefix_in None prefix = None
number_and_prefix_in (Some number) prefix = prefix_in number prefix

-- the arguments that these words are, by their rule
abbrev pub arguments_of : Rule → List (List ℕ) → Option Given
arguments_of File (file ∷ []) = file_in file
arguments_of File _ = None
arguments_of NumberAndPrefix (number ∷ prefix ∷ []) = number_and_prefix_in (number_of_word number) prefix
arguments_of NumberAndPrefix _ = None

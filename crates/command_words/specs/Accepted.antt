-- Which words are accepted.
use Rattle.std.specs.Prelude.{ℕ, List, [], ◌∷◌, Option, None, option_and_then}
use Rattle.command_words.specs.Given.{Given}
use Rattle.command_words.specs.Arguments.{arguments_of}
use Rattle.command_words.specs.Table.{rows, row_in}

-- the first names a command, and the others are its arguments, where its rule accepts them
abbrev pub given_in : List (List ℕ) → Option Given
given_in [] = None
given_in (first ∷ rest) = option_and_then (λ row. arguments_of row.rule rest) (row_in rows first)

-- A command with its arguments.
use Rattle.std.specs.Prelude.{ℕ, List, [], ◌∷◌, Option, Some, None, option_map}
use Rattle.command_words.specs.declared.command_line.CommandLine.{CommandLine}

-- a number, where one is given, before a file
abbrev pub before : Option (List ℕ) → List ℕ → List (List ℕ)
before None file = file ∷ []
before (Some number) file = number ∷ file ∷ []

-- the arguments as words
abbrev pub arguments_in : CommandLine → List (List ℕ)
arguments_in line = before (option_map (λ word. word.now) line.number) line.file.now

-- the words that it is made of
abbrev pub words_of : CommandLine → List (List ℕ)
words_of line = line.command.now ∷ arguments_in line

-- there are two or three words
abbrev pub line_of : List (List ℕ) → Option (List (List ℕ))
line_of (command ∷ file ∷ []) = Some (command ∷ file ∷ [])
line_of (command ∷ number ∷ file ∷ []) = Some (command ∷ number ∷ file ∷ [])
line_of _ = None

-- What a name means, by a table of names.
use Rattle.std.specs.Prelude.{ℕ, List, [], ◌∷◌, Option, Some, None, if◌then◌else◌}
use Rattle.std.specs.Str.{bytes_eq}
use Rattle.csv_rows.specs.declared.named_values.Named.{Named}

-- the value of the first line with this name
abbrev pub named_in : {T : Type 0} → List (Named T) → List ℕ → Option T
named_in [] name = None
named_in (line ∷ lines) name = if bytes_eq name line.name.now then Some line.value else named_in lines name

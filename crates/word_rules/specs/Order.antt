-- The order of rows.
use Rattle.std.specs.Prelude.{ℕ, ◌≤◌, ◌<◌, List, length, get_or, None}
use Rattle.word_rules.specs.declared.fault.Fault.{Fault}
use Rattle.word_rules.specs.declared.rule.WordRule.TheVariants as rules

-- no row
abbrev pub no_fault : Fault
no_fault = record { word = 0; rule = rules.Bad; channel = None }

-- the rows stand in order of word
abbrev pub InOrderOfWord : List Fault → Type 0
InOrderOfWord rows = (i j : ℕ) → i ≤ j → j < length rows → (get_or rows i no_fault).word ≤ (get_or rows j no_fault).word

-- What is kept of the rows of flow control.
use Rattle.std.specs.Prelude.{ℕ, ◌≡◌, ◌≤◌, ◌<◌, All, List, [], ◌∷◌, ◌++◌, length, take, get_or}
use Rattle.stream_model.specs.declared.rows.FlowRow.{FlowRow}
use Rattle.calendar.specs.Incoming.{Stands}
use Rattle.word_rules.specs.declared.flow.Flow.{Flow}

-- no row
abbrev pub no_row : FlowRow
no_row = record { slot = 0; word = 0 }

-- the rows stand in order of slot
abbrev pub InOrder : List FlowRow → Type 0
InOrder rows = (i j : ℕ) → i ≤ j → j < length rows → (get_or rows i no_row).slot ≤ (get_or rows j no_row).slot

-- none of the rows is of a slot after t
abbrev pub NoneLater : List FlowRow → ℕ → Type 0
NoneLater rows t = All (λ (row : FlowRow). row.slot ≤ t) rows

-- the rows with one more, whose word counts from slot t on
abbrev pub with_row : List FlowRow → ℕ → ℕ → List FlowRow
with_row rows t word = rows ++ record { slot = t; word = word } ∷ []

-- The calendar has taken the first of these rows, all of slot t at most: those that were heard and are kept nowhere, and then the
-- first of those that are kept.
pub record IsFlow (f : Flow) (entries : List ℕ) (rows : List FlowRow) (t : ℕ) : Type 0 where
  pub heard : List FlowRow
  pub shown : heard ++ f.rows.items ≡ rows
  pub stands : Stands f.calendar entries (heard ++ take f.taken f.rows.items)
  pub part : f.taken ≤ length f.rows.items
  pub gone : NoneLater heard t
  pub early : NoneLater (take f.taken f.rows.items) t

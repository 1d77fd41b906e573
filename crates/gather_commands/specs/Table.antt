-- The table of places, and what items come to.
use Rattle.std.specs.Prelude.{ℕ, List, [], ◌∷◌, ◌++◌, length, map, Option, Some, None}
use Rattle.std.specs.Fmt.{decimal}
use lib.Chars.{codes}
use Rattle.lk_base.specs.declared.fault.Why.{Why}
use Rattle.lk_base.specs.declared.word.Aligned.{Aligned}
use Rattle.lk_base.specs.declared.word.RxWord.{RxWord}
use Rattle.csv_rows.specs.Rows.{Row}
use Rattle.csv_rows.specs.Written.{rows_text}
use Rattle.link_reports.specs.Lines.{count_line}
use Rattle.link_reports.specs.Table.{why_name}
use Rattle.run_shell.specs.Names.{words_name}
use Rattle.run_shell.specs.Outcome.{Outcome}
use Rattle.run_shell.specs.Outputs.{outs}
use Rattle.run_shell.specs.declared.status.Status.TheVariants.{Done}
use Rattle.lane_words.specs.declared.places.PlaceRow.{PlaceRow}
use Rattle.lane_words.specs.Gathered.{epochs_in, gathered_words, places}
use Rattle.lane_words.specs.WordsFile.{rx_words_file}

-- ---- the table

-- why an epoch ended, or a stroke for a group
abbrev pub why_or_stroke : Option Why → List ℕ
why_or_stroke None = codes "-"
why_or_stroke (Some why) = why_name why

-- a row: the number of words before, the group, the place in the group, and why
abbrev pub place_fields : PlaceRow → Row
place_fields row = decimal row.word ∷ decimal row.at.group ∷ decimal row.at.index ∷ why_or_stroke row.why ∷ []

abbrev pub heading : Row
heading = codes "word" ∷ codes "group" ∷ codes "index" ∷ codes "why" ∷ []

-- the rows without the heading
abbrev pub place_rows : List PlaceRow → List ℕ
place_rows rows = rows_text (map place_fields rows)

-- the heading and the rows
abbrev pub places_table : List PlaceRow → List ℕ
places_table rows = rows_text (heading ∷ []) ++ place_rows rows

-- ---- what is gathered

-- the name of the table
abbrev pub places_name : List ℕ → List ℕ
places_name out = out ++ codes ".places.csv"

-- the names of the words file and of the table
abbrev pub gathered_names : List ℕ → List (List ℕ)
gathered_names out = words_name out ∷ places_name out ∷ []

-- the contents of the words file and of the table
abbrev pub contents_of : List RxWord → List PlaceRow → List (List ℕ)
contents_of words rows = rx_words_file words ∷ places_table rows ∷ []

abbrev pub gathered_contents : List Aligned → List (List ℕ)
gathered_contents items = contents_of (gathered_words items) (places items)

-- what comes of these words and rows, with this text
abbrev pub finished_outcome : List ℕ → List ℕ → List RxWord → List PlaceRow → Outcome
finished_outcome out text words rows = record { status = Done; files = outs (gathered_names out) (contents_of words rows); text = text }

-- how many words there are, those between epochs among them, and how many epochs
abbrev pub gathered_text : List Aligned → List ℕ
gathered_text items = count_line (codes "words") (length (gathered_words items)) ++ count_line (codes "epochs") (epochs_in items)

-- what items come to, where this text stands before theirs
abbrev pub gathered_outcome : List ℕ → List ℕ → List Aligned → Outcome
gathered_outcome out before items = finished_outcome out (before ++ gathered_text items) (gathered_words items) (places items)

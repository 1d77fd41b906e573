-- What a stream comes to that is carried by events: the words of the pieces that were accepted, and one line.
use Rattle.std.specs.Prelude.{◌≡◌, ℕ, List, [], ◌∷◌, length, take}
use Rattle.lk_base.specs.declared.word.Word.{Word}
use Rattle.words_files.specs.WordsFile.{words_file}
use Rattle.link_reports.specs.Lines.{resend_line}
use Rattle.retransmit.specs.Pieces.{Piece, IsCutInto, words_of}
use Rattle.retransmit.specs.Resending.{State, state_after}
use Rattle.retransmit.specs.Rows.{events_of}
use Rattle.resend_events.specs.declared.row.EventRow.{EventRow}
use Rattle.run_shell.specs.declared.status.Status.TheVariants.{Done}
use Rattle.run_shell.specs.Outcome.{Outcome}
use Rattle.run_shell.specs.Names.{words_name}

-- the state of these pieces, with this window, after the events of these rows
abbrev pub state_of : List Piece → ℕ → List EventRow → State
state_of pieces window rows = state_after (record { pieces = length pieces; window = window }) (events_of rows)

-- the words that are accepted in a state
abbrev pub accepted_words : List Piece → State → List Word
accepted_words pieces state = words_of (take state.accepted pieces)

-- the line that a state comes to
abbrev pub state_line : List Piece → State → List ℕ
state_line pieces state = resend_line (length pieces) state.accepted state.acknowledged state.sends

-- the file and the text of a state
abbrev pub outcome_of : List ℕ → List Piece → State → Outcome
outcome_of prefix pieces state = record {
  status = Done;
  files = record { name = words_name prefix; content = words_file (accepted_words pieces state) } ∷ [];
  text = state_line pieces state;
}

-- what these words come to
pub record IsResent (prefix : List ℕ) (words : List Word) (window : ℕ) (rows : List EventRow) (o : Outcome) : Type 0 where
  pub pieces : List Piece
  pub cut : IsCutInto words pieces
  pub outcome : o ≡ outcome_of prefix pieces (state_of pieces window rows)

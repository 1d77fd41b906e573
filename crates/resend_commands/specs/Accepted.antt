-- What is known of what `resend` makes.
use Rattle.std.specs.Prelude.{◌≡◌, ℕ, ◌≤◌, List, ◌++◌, length, Ok}
use Rattle.std.specs.List.{range_with_len}
use Rattle.lk_base.specs.declared.word.Word.{Word}
use Rattle.lk_outside.specs.Files.{Files}
use Rattle.stream_model.specs.BurstStream.{Source, IsBurstStream}
use Rattle.plan_inputs.specs.Sources.{IsSourceOf}
use Rattle.retransmit.specs.Pieces.{Piece, IsCutInto}
use Rattle.retransmit.specs.Resending.{State, accepted_after}
use Rattle.retransmit.specs.Rows.{events_of}
use Rattle.run_shell.specs.Outcome.{Outcome}
use Rattle.run_shell.specs.Work.{IsWork}
use Rattle.resend_commands.specs.Resent.{outcome_of, state_of, accepted_words}
use Rattle.resend_commands.specs.Plan.{ResendReading, IsPlanResent}
use Rattle.resend_commands.specs.Reading.{resend_in}
use Rattle.resend_commands.specs.Command.{resend_work}

-- what is read has one outcome, where files hold bytes there is one, and no stream is held
abbrev pub ResendIsWork : Type 0
ResendIsWork = (name : List ℕ) → IsWork (resend_work name)

-- In a state the receiver has accepted the first pieces, each once, in order; what is acknowledged was accepted, and what
-- was accepted was sent.
pub record IsInOrder (pieces : List Piece) (accepted_pieces : List ℕ) (state : State) : Type 0 where
  pub in_order : accepted_pieces ≡ range_with_len 0 state.accepted
  pub acknowledged : state.acknowledged ≤ state.accepted
  pub accepted : state.accepted ≤ state.reached
  pub reached : state.reached ≤ length pieces

-- the stream of what was read, its pieces, and the state after the events, of which the words file and the line are made
pub record IsResentInOrder (i : ResendReading) (o : Outcome) : Type 0 where
  pub source : Source
  pub is_source : IsSourceOf i.reading.plan i.reading.inputs source
  pub words : List Word
  pub stream : IsBurstStream source words
  pub pieces : List Piece
  pub cut : IsCutInto words pieces
  pub outcome : o ≡ outcome_of i.reading.plan.out pieces (state_of pieces i.window i.rows)
  -- the words of the file are the first of the stream
  pub begins : (rest : List Word) × (words ≡ accepted_words pieces (state_of pieces i.window i.rows) ++ rest)
  pub accepts : IsInOrder pieces (accepted_after (record { pieces = length pieces; window = i.window }) (events_of i.rows)) (state_of pieces i.window i.rows)

abbrev pub ResentInOrder : Type 0
ResentInOrder = (files : Files) (name : List ℕ) (i : ResendReading) (o : Outcome) → resend_in files name ≡ Ok i → IsPlanResent i o → IsResentInOrder i o

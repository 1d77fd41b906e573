-- A retransmission on its way.
use Rattle.std.specs.Prelude.{ℕ, List}
use Rattle.lk_base.specs.declared.word.Word.{Word}
use Rattle.stream_model.specs.BurstStream.{Source, IsBurstStream}
use Rattle.words_files.specs.WordsFile.{words_file}
use Rattle.retransmit.specs.Carried.{Carried, IsFresh, in_state, setting_of}
use Rattle.retransmit.specs.Resending.{state_from}
use Rattle.resend_events.specs.declared.event.Event.{Event}
use Rattle.plan_inputs.specs.Inputs.{Reading}
use Rattle.plan_inputs.specs.Sources.{IsSourceOf}
use Rattle.resend_commands.specs.Resent.{accepted_words, state_line}

-- after these events
abbrev pub events_done : Carried → List Event → Carried
events_done c events = in_state c (state_from (setting_of c) c.state events)

-- the words file of the pieces that are accepted
abbrev pub accepted_file : Carried → List ℕ
accepted_file c = words_file (accepted_words c.pieces c.state)

-- the line of a retransmission
abbrev pub line_of : Carried → List ℕ
line_of c = state_line c.pieces c.state

-- the stream of a plan and its inputs, of which nothing was sent yet
pub record IsBegun (i : Reading) (window : ℕ) (c : Carried) : Type 0 where
  pub source : Source
  pub is_source : IsSourceOf i.plan i.inputs source
  pub words : List Word
  pub stream : IsBurstStream source words
  pub fresh : IsFresh words window c

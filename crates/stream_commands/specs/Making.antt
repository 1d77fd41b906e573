-- What the makers of a stream's files gave so far.
use Rattle.std.specs.Prelude.{◌≡◌, ℕ, ◌-◌, ◌≤◌, ◌^◌, List, [], ◌∷◌, ◌++◌, map, length, Option, Some, None}
use Rattle.std.specs.List.{range_with_len}
use Rattle.lk_base.specs.declared.word.Word.{Word}
use Rattle.lk_base.specs.Link.{Settings}
use Rattle.stream_model.specs.BurstStream.{Source, IsBurstStream}
use Rattle.words_files.specs.WordsFile.{words_file}
use Rattle.tx_words.specs.Streaming.{Streams}
use Rattle.tx_words.specs.declared.stream_words.StreamWords.{StreamWords}
use Rattle.tx_end.specs.LaneRows.{bytes_on}
use Rattle.tx_end.specs.Sending.{sending, Sends, AreAll}
use Rattle.tx_end.specs.declared.transmitter.Transmitter.{Transmitter}
use Rattle.tx_end.specs.declared.tx_out.TxOut.{TxOut}
use Rattle.run_shell.specs.declared.finished.Finished.{Finished}
use Rattle.run_shell.specs.Ends.{held_status}
use Rattle.run_shell.specs.Open.{Open}
use Rattle.run_shell.specs.Outcome.{Outcome}
use Rattle.run_shell.specs.Rests.{join, rests_of}
use Rattle.stream_commands.specs.declared.form.StreamForm.{StreamForm}
use Rattle.stream_commands.specs.declared.form.StreamForm.TheVariants as form
use Rattle.stream_commands.specs.Form.{made_by, names_by}
use Rattle.stream_commands.specs.Stream.{HasStream, IsStatusOf, IsTextOf}

-- ---- what is made of a stream

-- the form of the files, the prefix of their names, and what the stream is made of
pub record StreamInputs : Type 0 where
  pub form : StreamForm
  pub prefix : List ℕ
  pub source : Source

abbrev pub names_of : StreamInputs → List (List ℕ)
names_of i = names_by i.form i.prefix

abbrev pub IsMadeOf : StreamInputs → Outcome → Type 0
IsMadeOf i o = HasStream (made_by i.form i.prefix) i.source o

-- what is reported of the stream w of a source: its status, and its text
pub record IsEndOf (source : Source) (w : List Word) (f : Finished) : Type 0 where
  pub stream : IsBurstStream source w
  pub status : IsStatusOf source w (held_status f.held)
  pub text : IsTextOf source w f.text.items

-- ---- lanes

abbrev pub lanes_inputs : Settings → List ℕ → Source → StreamInputs
lanes_inputs link prefix source = record { form = form.Lanes link; prefix = prefix; source = source }

-- what this many lanes were given, each by its number
abbrev pub lane_bytes : ℕ → List TxOut → List (List ℕ)
lane_bytes n outs = map (λ i. bytes_on i outs) (range_with_len 0 n)

-- the bytes that the transmitter gave of the lanes of the source's stream, as many as this together
pub record GaveLanes (t : Transmitter) (count : ℕ) (s : Settings) (source : Source) (given : List (List ℕ)) : Type 0 where
  pub words : List Word
  pub outs : List TxOut
  pub sends : Sends t (sending s source words outs)
  pub many : count ≡ length outs
  pub is : given ≡ lane_bytes s.lanes outs

-- all that there are
abbrev pub GaveAllLanes : Transmitter → Settings → Source → List (List ℕ) → Type 0
GaveAllLanes t s source given = (count : ℕ) × (g : GaveLanes t count s source given) × AreAll (sending s source g.words g.outs)

-- there is an output for each lane, and with what was appended they were given these bytes
abbrev pub HasLanes : Transmitter → ℕ → Settings → Source → List (List ℕ) → List Open → Type 0
HasLanes t count s source done opens = (length opens ≡ s.lanes) × GaveLanes t count s source (join done (rests_of opens))

-- ---- words

abbrev pub words_inputs : List ℕ → Source → StreamInputs
words_inputs prefix source = record { form = form.Words; prefix = prefix; source = source }

-- how many words may still be made, where some are
abbrev pub words_left : Option StreamWords → ℕ
words_left (Some s) = 2 ^ 60 - s.maker.scheduler.slot
words_left None = 0

-- more words of the source's stream were made after these, and this is their file
pub record MakesFile (s : StreamWords) (source : Source) (made : List Word) (bytes : List ℕ) : Type 0 where
  pub more : List Word
  pub streams : Streams s source (made ++ more)
  pub file : bytes ≡ words_file more

-- the file of the words that were made of the source's stream; there is room for the bytes of a word
pub record GaveWordsFile (words : Option StreamWords) (bytes : ℕ) (source : Source) (given : List (List ℕ)) : Type 0 where
  pub room : 9 ≤ bytes
  pub maker : StreamWords
  pub there : words ≡ Some maker
  pub made : List Word
  pub streams : Streams maker source made
  pub is : given ≡ words_file made ∷ []

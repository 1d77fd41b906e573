-- What is known of gathered words and places.
use Rattle.std.specs.Prelude.{◌≡◌, ◌<◌, ◌*◌, ◌^◌, ℕ, true, List, [], ◌∷◌, ◌++◌, All, drop, length, map, Ok}
use Rattle.lk_base.specs.declared.fault.Why.TheVariants as whys
use Rattle.lk_base.specs.declared.word.Aligned.{Aligned}
use Rattle.lk_base.specs.declared.word.Aligned.TheVariants.{Group, Word, Break}
use Rattle.lk_base.specs.declared.word.RxWord.{RxWord}
use Rattle.lk_base.specs.declared.word.RxWord.TheVariants.{Data, Control, Bad}
use Rattle.lk_base.specs.declared.word.Word.{Word as SentWord}
use Rattle.lk_base.specs.Link.{Settings}
use Rattle.lk_base.specs.Words.{as_sent, number_of}
use Rattle.receive_model.specs.Positions.{Epoch}
use Rattle.receive_model.specs.Pieces.{Packet}
use Rattle.receive_model.specs.Events.{Event, Setting, delivered, events, word_events}
use Rattle.epoch_model.specs.GroupLaw.{CleanLink, group_size, tracks_of_link}
use Rattle.epoch_model.specs.Groups.{AreEpochs}
use Rattle.epoch_model.specs.KnownLaw.{AreLanes, all_over}
use Rattle.epoch_model.specs.SoFar.{AreKnown, LaneSoFar, tracks_in}
use Rattle.epoch_model.specs.StreamLaw.{Carries}
use Rattle.words_files.specs.WordsOfFile.{words_of_file}
use Rattle.lane_words.specs.WordsFile.{rx_words_file}
use Rattle.event_model.specs.Given.{AreEvents}
use Rattle.lane_words.specs.Gathered.{epochs_in, gathered_words, words_of_epochs}
use Rattle.lane_words.specs.Items.{AreAllItems}
pub use Rattle.receive_model.specs.Events.{packets_on as bytes_on}

-- ---- more items only extend them

pub record Extends (items more : List Aligned) : Type 0 where
  pub words : List RxWord
  pub extended : gathered_words (items ++ more) ≡ gathered_words items ++ words

abbrev pub WordsGrow : Type 0
WordsGrow = (items more : List Aligned) → Extends items more

-- ---- what is written is read

-- as the words that were received, each Bad one among them
abbrev pub WrittenIsRead : Type 0
WrittenIsRead = (words : List RxWord) → All (λ word. number_of word < 2 ^ 64) words → words_of_file (rx_words_file words) ≡ Ok words

-- ---- epochs

-- the words are those of these epochs, with one between each two, and so many epochs are counted
pub record AreOfEpochs (items : List Aligned) (epochs : List Epoch) : Type 0 where
  pub words : gathered_words items ≡ words_of_epochs epochs
  pub count : epochs_in items ≡ length epochs

abbrev pub WordsAreOfEpochs : Type 0
WordsAreOfEpochs = (s : Settings) (lanes : List LaneSoFar) (items : List Aligned) (epochs : List Epoch) → 2 * s.deskew < s.metaframe → AreLanes s lanes →
    all_over lanes ≡ true → AreKnown s lanes items → AreEpochs s s.deskew (tracks_in lanes) epochs → AreOfEpochs items epochs

-- the words of clean lanes are those of the stream from its group 3 on
abbrev pub CleanLanesGiveStream : Type 0
CleanLanesGiveStream = (k : CleanLink) (stream : List SentWord) (lanes : List LaneSoFar) (items : List Aligned) → k.depth ≡ k.settings.deskew → tracks_in lanes ≡ tracks_of_link k →
    all_over lanes ≡ true → Carries k stream → AreKnown k.settings lanes items → gathered_words items ≡ map as_sent (drop (3 * group_size k) stream)

-- ---- what they deliver

-- the words of epochs, as those of a words file, deliver on each channel what the epochs deliver
abbrev pub WordsDeliverAsEpochs : Type 0
WordsDeliverAsEpochs = (setting : Setting) (channel : ℕ) (epochs : List Epoch) →
    bytes_on channel (word_events setting (words_of_epochs epochs)) ≡ bytes_on channel (events setting epochs)

-- the words of all items of lanes are read as they were written, and deliver on each channel what the lanes deliver
pub record AreGivenBack (setting : Setting) (items : List Aligned) (given : List Event) : Type 0 where
  pub read : words_of_file (rx_words_file (gathered_words items)) ≡ Ok (gathered_words items)
  pub delivered : (channel : ℕ) → bytes_on channel (word_events setting (gathered_words items)) ≡ bytes_on channel given

abbrev pub LanesAreGivenBack : Type 0
LanesAreGivenBack = (s : Settings) (setting : Setting) (lanes : List (List ℕ)) (items : List Aligned) (given : List Event) → 2 * s.deskew < s.metaframe →
    AreAllItems s lanes items → AreEvents s setting lanes given → AreGivenBack setting items given

-- ---- worked examples

-- an epoch of two groups, the second of one word, which is bad; and an epoch of a group of which no word is given
abbrev pub two_epochs : List Aligned
two_epochs =
    Group (record { group = 500; index = 0 })
    ∷ Word (record { group = 500; index = 0 }) (Control 7)
    ∷ Word (record { group = 500; index = 1 }) (Data 5)
    ∷ Group (record { group = 2644; index = 0 })
    ∷ Word (record { group = 2644; index = 0 }) Bad
    ∷ Break (record { group = 2644; index = 1 }) whys.Lost
    ∷ Group (record { group = 9000; index = 0 })
    ∷ Break (record { group = 9000; index = 0 }) whys.End
    ∷ []

pub record WorkedWords : Type 0 where
  pub none : gathered_words [] ≡ []
  pub two : gathered_words two_epochs ≡ Control 7 ∷ Data 5 ∷ Bad ∷ Bad ∷ []
  pub bytes : rx_words_file (Control 0x8102030405060708 ∷ Bad ∷ []) ≡ 2 ∷ 0x81 ∷ 2 ∷ 3 ∷ 4 ∷ 5 ∷ 6 ∷ 7 ∷ 8 ∷ 3 ∷ 0 ∷ 0 ∷ 0 ∷ 0 ∷ 0 ∷ 0 ∷ 0 ∷ 0 ∷ []

-- The lanes of a payload stream, made a group at a time.
use Rattle.std.specs.Prelude.{ℕ, ◌≡◌, ◌↔◌, ◌*◌, ◌^◌, ◌<◌, List, length, map, Some, None}
use Rattle.lk_base.specs.declared.word.Word.{Word}
use Rattle.lk_base.specs.Link.{Settings, group_of}
use Rattle.stream_model.specs.BurstStream.{Source, IsBurstStream, IsHeld}
use Rattle.tx_words.specs.Making.{GaveWords}
use Rattle.tx_words.specs.Sent.{AreSent}
use Rattle.tx_words.specs.SentLaw.{EachHasBytes}
use Rattle.tx_words.specs.SentLists as packets
use Rattle.tx_words.specs.Sources.{IsHeldOn}
use Rattle.tx_words.specs.declared.sent_list.SentList.{SentList}
use Rattle.tx_words.specs.declared.word_maker.WordMaker.{WordMaker}
use Rattle.tx_end.specs.declared.lane_writer.LaneWriter.{LaneWriter}
use Rattle.tx_end.specs.declared.sent_lanes.SentLanes.{SentLanes}
use Rattle.tx_end.specs.Lanes.{AreFilled, AreLaneFiles}

-- the maker gave these words of the source's stream, and the packets that start in them are listed, with room for all
pub record IsListed (m : WordMaker) (l : SentList) (source : Source) (words : List Word) : Type 0 where
  pub gave : GaveWords m source words
  pub bytes : EachHasBytes source
  pub few : length source.packets < 2 ^ 32
  pub lists : packets.Lists l words (length source.packets)

-- these are whole groups, and the lanes made a metaframe of each of them into their files
pub record HasSent (m : WordMaker) (l : SentList) (source : Source) (s : Settings) (words : List Word) (made : ℕ) (lanes : List LaneWriter) (files : List (List ℕ)) : Type 0 where
  pub listed : IsListed m l source words
  pub group : source.shape.group ≡ group_of s
  pub count : length words ≡ made * group_of s
  pub filled : AreFilled s words made lanes files

-- the files of the lanes that carry the stream of the source, with what is reported of it
pub record AreSentLanes (s : Settings) (source : Source) (l : SentLanes) : Type 0 where
  pub words : List Word
  pub stream : IsBurstStream source words
  pub files : AreLaneFiles s words (map (λ file. file.items) l.files.items)
  pub sent : AreSent words l.sent.items
  pub slots : l.slots ≡ length words
  pub held : (channel : ℕ) → (l.held ≡ Some channel) ↔ IsHeldOn source words channel
  pub free : (l.held ≡ None) ↔ (IsHeld source words → ⊥)

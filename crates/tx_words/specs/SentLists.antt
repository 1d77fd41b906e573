-- What a list of sent packets stands for while words are made.
use Rattle.std.specs.Prelude.{ℕ, ◌≡◌, ◌<◌, ◌≤◌, List, length, take, IfSome}
use Rattle.lk_base.specs.declared.word.Word.{Word}
use Rattle.tx_words.specs.declared.sent_list.SentList.{SentList}
use Rattle.tx_words.specs.Sent.{last_channel}
use Rattle.tx_words.specs.Places.{Stands}

-- it lists the packets that start in these words, and there is room for this many in all
pub record Lists (l : SentList) (p : List Word) (total : ℕ) : Type 0 where
  pub stands : Stands p (take l.count l.list.items) l.places.items
  pub within : l.count ≤ length l.list.items
  pub room : total ≤ length l.list.items
  pub last : l.last ≡ last_channel p
  pub low : IfSome l.last (λ c. c < 65536)
  pub slot : l.slot ≡ length p

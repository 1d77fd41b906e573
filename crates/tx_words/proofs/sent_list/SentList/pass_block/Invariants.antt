use Rattle.std.proofs.Common.{ℕ, ◌++◌, List, take}
use Rattle.lk_base.specs.declared.word.Word.{Word}
use Rattle.tx_words.specs.SentLists.{Lists}
use Rattle.tx_words.proofs.sent_list.SentList.pass_block.Given as goal

-- the packets that the first words start are listed
abbrev pub invariant-loop-place : goal.invariant-loop-place
invariant-loop-place l = (p : List Word) (room : ℕ) → Lists l.fn.self p room → Lists l.self (p ++ take l.place l.words) room

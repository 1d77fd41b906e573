-- Rows that are written lane by lane: the words of a lane stand a row apart.
use Rattle.std.specs.Prelude.{ℕ, zero, suc, ◌+◌, List, [], ◌∷◌}
use Rattle.lk_base.specs.declared.word.RxWord.{RxWord}
use Rattle.word_list.specs.Received.{spread}
use Rattle.deskew.specs.States.{LaneState}
use Rattle.deskew.specs.Blocks.{word_at}

-- the words of a lane in this many rows, the first of them this many words after the Sync of the last group
abbrev pub column : ℕ → ℕ → LaneState → List RxWord
column behind zero l = []
column behind (suc n) l = word_at behind l ∷ column (behind + 1) n l

-- and so of each lane, those of the first from this place on
abbrev pub spread_all : ℕ → ℕ → ℕ → ℕ → List LaneState → List RxWord → List RxWord
spread_all step from behind n [] block = block
spread_all step from behind n (l ∷ ls) block = spread_all step (from + 1) behind n ls (spread step from (column behind n l) block)

-- The lanes of a link in rounds: in each round every lane makes its metaframe of one group, and in the last one its last byte.
use Rattle.std.specs.Prelude.{ℕ, ◌≡◌, ◌+◌, ◌*◌, List, [], ◌++◌, length, set, get_or, slice_index_or}
use Rattle.lk_base.specs.declared.word.Word.{Word}
use Rattle.lk_base.specs.Link.{Settings, group_of}
use Rattle.tx_end.specs.declared.lane_writer.LaneWriter.{LaneWriter}
use Rattle.tx_end.specs.Lanes.{Fills, HasEnded, InTurn, IsEnded, IsFilled}

-- ---- what is lent

-- the lanes of a link, and the bytes that one of them made last
pub record Filler : Type 0 where
  pub settings : Settings
  pub lanes : List LaneWriter
  pub bytes : List ℕ

-- the lane of this number did this, and the others are as they were
pub record OneLane (act : LaneWriter → LaneWriter → Type 0) (number : ℕ) (old new : List LaneWriter) : Type 0 where
  pub lane : LaneWriter
  pub did : (d : LaneWriter) → act (slice_index_or old number d) lane
  pub lanes : new ≡ set old number lane

-- with its payload words of a group a lane made one metaframe more, of these bytes
abbrev pub MakesMetaframe : Settings → ℕ → List Word → List LaneWriter → List LaneWriter → List ℕ → Type 0
MakesMetaframe s number group old new bytes = OneLane (λ was now. Fills s number group was now bytes) number old new

-- with these bytes a lane has given all that it carried
abbrev pub MakesEnd : ℕ → List LaneWriter → List LaneWriter → List ℕ → Type 0
MakesEnd number old new bytes = OneLane (λ was now. (before : List ℕ) → HasEnded was before (before ++ bytes)) number old new

-- bytes after the others of one of these files
abbrev pub longer : List (List ℕ) → ℕ → List ℕ → List (List ℕ)
longer files number bytes = set files number (get_or files number [] ++ bytes)

-- ---- what the files hold

-- The lanes of these words made this many metaframes into their files, and those before this turn made that of the next group.
pub record InRound (s : Settings) (words group : List Word) (metaframes turn : ℕ) (lanes : List LaneWriter) (files : List (List ℕ)) : Type 0 where
  pub files_count : length files ≡ s.lanes
  pub words_count : length words ≡ metaframes * group_of s
  pub turns : InTurn s.lanes turn lanes (λ i. get_or files i []) (IsFilled s words metaframes) (IsFilled s (words ++ group) (metaframes + 1))

-- The lanes of these words made this many metaframes into their files, and those before this turn made their last bytes.
pub record InLastRound (s : Settings) (words : List Word) (metaframes turn : ℕ) (lanes : List LaneWriter) (files : List (List ℕ)) : Type 0 where
  pub files_count : length files ≡ s.lanes
  pub turns : InTurn s.lanes turn lanes (λ i. get_or files i []) (IsFilled s words metaframes) (λ i _. IsEnded s words metaframes i)

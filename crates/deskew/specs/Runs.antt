-- Words of a lane that are put at once.
use Rattle.std.specs.Prelude.{ℕ, List, ◌++◌}
use Rattle.lk_base.specs.declared.word.RxWord.{RxWord}
use Rattle.circular_buffer.specs.Buffer.{keep_last}
use Rattle.deskew.specs.States.{LaneState}

-- these words more of the lock; then the last word and the last Sync stand at these bit positions
abbrev pub all_worded : List RxWord → ℕ → ℕ → LaneState → LaneState
all_worded words last sync l = record { room = l.room; words = keep_last l.room (l.words ++ words); last = last; sync = sync; start = l.start; lost = l.lost; over = l.over }

use Rattle.std.proofs.Common.{◌≡◌, ◌+◌, ◌++◌, length, take}
use Rattle.lane_lock.proofs.step_list.put_words.Given as goal

-- the first of them are there
abbrev pub invariant-loop-place : goal.invariant-loop-place
invariant-loop-place l = (take (l.at + l.place) l.plain ≡ take l.at l.initial.plain ++ take l.place l.words) × (length l.plain ≡ 64)

-- Each word so far stands in its list.
use Rattle.std.proofs.Common.{◌-◌, ◌*◌, length, map}
use Rattle.lane_striper.specs.Gathered.{IsBegun, list_of}
use Rattle.lane_striper.proofs.lists.gather.Given as goal

abbrev pub invariant-loop-word : goal.invariant-loop-word
invariant-loop-word l = IsBegun (map (λ list. list.items) l.lists) l.words.items

abbrev pub decreases-loop-word : goal.decreases-loop-word
decreases-loop-word l = length l.lists * length (list_of (map (λ list. list.items) l.lists) 0) - length l.words.items

use Rattle.std.proofs.Common.{take}
use Rattle.lane_damage.specs.Bits.{IsChanged, turned_by}
use Rattle.lane_damage.proofs.rows.invert_all.Given as goal

-- the flips so far are made
abbrev pub invariant-loop-flip : goal.invariant-loop-flip
invariant-loop-flip l = IsChanged (turned_by (take l.flip-index l.flips)) l.start l.fn.bytes l.bytes

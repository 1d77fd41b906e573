use Rattle.std.proofs.Common.{take, map}
use Rattle.lane_damage.specs.Bits.{IsChanged, darkened_by}
use Rattle.lane_damage.specs.Stretches.{dark_bits}
use Rattle.lane_damage.proofs.rows.darken.Given as goal

-- the first of them are 0
abbrev pub invariant-loop-dark : goal.invariant-loop-dark
invariant-loop-dark l = IsChanged (darkened_by (map dark_bits (take l.dark-index l.darks))) l.start l.fn.bytes l.bytes

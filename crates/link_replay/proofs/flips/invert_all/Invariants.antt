use Rattle.std.proofs.Common.{take, map}
use Rattle.link_plan.specs.ScheduleViews.{flip_value}
use Rattle.lane_damage.specs.Bits.{turned_by}
use Rattle.link_replay.specs.Damages.{AreChanged, flips_on}
use Rattle.link_replay.proofs.flips.invert_all.Given as goal

-- the flips so far are made
abbrev pub invariant-loop-flip : goal.invariant-loop-flip
invariant-loop-flip l = AreChanged (turned_by (flips_on l.lane (map flip_value (take l.flip-index l.flips)))) l.before l.bits l.fn.bytes l.bytes

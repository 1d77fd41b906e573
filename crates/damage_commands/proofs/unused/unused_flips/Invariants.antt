use Rattle.std.proofs.Common.{◌≡◌, ◌≤◌, count_by, map, nat_le, take}
use Rattle.link_plan.specs.ScheduleViews.{flip_value}
use Rattle.link_replay.specs.Damages.{flips_on}
use Rattle.damage_commands.proofs.unused.unused_flips.Given as goal

-- those so far are counted
abbrev pub invariant-loop-flip : goal.invariant-loop-flip
invariant-loop-flip l = record {
  count : l.unused ≡ count_by (λ bit. nat_le l.bits bit) (flips_on l.lane (map flip_value (take l.flip-index l.flips)));
  few : l.unused ≤ l.flip-index;
}

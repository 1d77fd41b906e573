use Rattle.std.proofs.Common.{◌≡◌, ◌≤◌, count_by, map, nat_le, take}
use Rattle.lane_model.specs.Damage.{DarkBits}
use Rattle.link_plan.specs.ScheduleViews.{dark_value}
use Rattle.link_replay.specs.Damages.{darks_on}
use Rattle.damage_commands.proofs.unused.unused_darks.Given as goal

-- those so far are counted
abbrev pub invariant-loop-dark : goal.invariant-loop-dark
invariant-loop-dark l = record {
  count : l.unused ≡ count_by (λ (dark : DarkBits). nat_le l.bits dark.first) (darks_on l.lane (map dark_value (take l.dark-index l.darks)));
  few : l.unused ≤ l.dark-index;
}

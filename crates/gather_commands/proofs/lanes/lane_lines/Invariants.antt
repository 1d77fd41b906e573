use Rattle.gather_commands.specs.Lanes.{AreLinesOf}
use Rattle.gather_commands.proofs.lanes.lane_lines.Given as goal

-- the reports of the first lanes
abbrev pub invariant-loop-lane : goal.invariant-loop-lane
invariant-loop-lane l = AreLinesOf l.front l.lane l.text

use Rattle.std.proofs.Common.{refl, arith}
use Rattle.inspect_commands.proofs.lane.InspectedLane.new.Goals as goal

pub returns-clause-fresh : goal.returns-clause-fresh
returns-clause-fresh c =
    let none = c.in_ok-inspector.ensures.1 in
    (refl, refl, record { taken = omega (arith, none); few = omega arith; short = omega arith })

pub returns-clause-begins : goal.returns-clause-begins
returns-clause-begins c = (c.in_ok-inspector.ensures.0, c.in_ok-inspector.ensures.2)

use Rattle.std.proofs.Common.{refl, arith}
use Rattle.lane_commands.proofs.laws.worked_examples.Goals as goal

pub returns-clause-three : goal.returns-clause-three
returns-clause-three c = (record { fillers = 25; few = omega arith; is = refl; whole = refl }, record { fillers = 0; few = omega arith; is = refl; whole = refl })

pub returns-clause-whole : goal.returns-clause-whole
returns-clause-whole c = record { fillers = 0; few = omega arith; is = refl; whole = refl }

pub returns-clause-tags : goal.returns-clause-tags
returns-clause-tags c = (refl, refl, refl, refl, refl, refl, refl)

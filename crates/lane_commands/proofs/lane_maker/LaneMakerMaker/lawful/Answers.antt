use Rattle.lane_commands.proofs.LaneMaking.{gave_begins}
use Rattle.lane_commands.proofs.StripeWork.{one_made}
use Rattle.lane_commands.proofs.lane_maker.LaneMakerMaker.lawful.Goals as goal

pub returns-clause-begins : goal.returns-clause-begins
returns-clause-begins c = λ m given o g h. gave_begins m.inputs.now m.lanes m.group.items m.slots given g o h

pub returns-clause-one : goal.returns-clause-one
returns-clause-one c = one_made

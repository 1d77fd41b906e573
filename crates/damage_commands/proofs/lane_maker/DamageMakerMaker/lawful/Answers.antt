use Rattle.damage_commands.proofs.Damages.{one_made}
use Rattle.damage_commands.proofs.Makers.{gave_begins}
use Rattle.damage_commands.proofs.lane_maker.DamageMakerMaker.lawful.Goals as goal

pub returns-clause-begins : goal.returns-clause-begins
returns-clause-begins c = λ maker given o. gave_begins maker.inputs.now maker.lines maker.count given o

pub returns-clause-one : goal.returns-clause-one
returns-clause-one c = one_made

use Rattle.check_commands.proofs.Makers.{gave_begins, one_checked}
use Rattle.check_commands.proofs.fault_maker.FaultMakerMaker.lawful.Goals as goal

pub returns-clause-begins : goal.returns-clause-begins
returns-clause-begins c = λ m given o. gave_begins m.inputs.now m.checker m.tally m.judged given m.begun o

pub returns-clause-one : goal.returns-clause-one
returns-clause-one c = one_checked

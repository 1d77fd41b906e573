use Rattle.resend_commands.specs.Values.{reading_with}
use Rattle.resend_commands.proofs.Makers.{gave_begins}
use Rattle.resend_commands.proofs.PlanResent.{one_outcome}
use Rattle.resend_commands.proofs.resend_maker.ResendMakerMaker.lawful.Goals as goal

pub returns-clause-begins : goal.returns-clause-begins
returns-clause-begins c = λ m given o g. gave_begins (reading_with m.reading.now m.resend.window m.rows.now) m.resend m.place given g o

pub returns-clause-one : goal.returns-clause-one
returns-clause-one c = one_outcome

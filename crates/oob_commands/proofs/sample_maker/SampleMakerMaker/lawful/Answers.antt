use Rattle.oob_commands.proofs.Makers.{frames_begin_one, one_samples}
use Rattle.oob_commands.proofs.sample_maker.SampleMakerMaker.lawful.Goals as goal

pub returns-clause-begins : goal.returns-clause-begins
returns-clause-begins c = λ m given o. frames_begin_one m.reading.now m.frames given o

pub returns-clause-one : goal.returns-clause-one
returns-clause-one c = one_samples

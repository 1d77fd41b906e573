use Rattle.stream_commands.proofs.WordsSent.{file_begin}
use Rattle.stream_commands.proofs.PartsOfStreams.{one_made}
use Rattle.stream_commands.proofs.words_maker.WordsMakerMaker.lawful.Goals as goal

pub returns-clause-begins : goal.returns-clause-begins
returns-clause-begins c = λ m given o. file_begin m.words _ m.source.now m.prefix.now given o

pub returns-clause-one : goal.returns-clause-one
returns-clause-one c = one_made

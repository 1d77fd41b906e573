use Rattle.stream_commands.proofs.LanesSent.{gave_begin}
use Rattle.stream_commands.proofs.PartsOfStreams.{one_made}
use Rattle.stream_commands.proofs.lanes_maker.LanesMakerMaker.lawful.Goals as goal

pub returns-clause-begins : goal.returns-clause-begins
returns-clause-begins c = λ m given o. gave_begin m.transmitter m.given m.link m.source.now m.prefix.now given o

pub returns-clause-one : goal.returns-clause-one
returns-clause-one c = one_made

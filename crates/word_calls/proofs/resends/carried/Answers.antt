-- The stream of one packet is carried.
use Rattle.std.proofs.Common.{ap, refl}
use Rattle.stream_model.specs.BurstStream.{Source}
use Rattle.word_calls.proofs.OnePacket.{kept, sealed}
use Rattle.word_calls.proofs.resends.carried.Goals as goal

pub new-source-requires : goal.new-source-requires
new-source-requires c = kept _ refl refl

pub new-requires-clause-sealed : goal.new-requires-clause-sealed
new-requires-clause-sealed c = sealed c.new-source.result c.in_ok-made.made.words (ap (λ (q : Source). q.channels) c.new-source.ensures) c.in_ok-made.ensures.stream

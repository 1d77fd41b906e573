-- A link of two lanes sends the stream of one packet.
use Rattle.std.proofs.Common.{◌^◌, ◌<◌, length, refl, sym, subst, arith}
use Rattle.stream_model.specs.BurstStream.{Source}
use Rattle.tx_end.specs.Whole.{IsShapeOf}
use Rattle.tx_end.specs.Sending.{not_begun}
use Rattle.word_calls.proofs.OnePacket.{kept}
use Rattle.word_calls.proofs.lane_bytes.one_packet.Goals as goal

pub new-source-requires : goal.new-source-requires
new-source-requires c = kept _ refl refl

pub new-requires-clause-suits : goal.new-requires-clause-suits
new-requires-clause-suits c =
    let e = c.shape.ensures in
    subst (λ (q : Source). IsShapeOf c.args.link.now q.shape) (sym c.new-source.ensures) (record { burst_max = e.burst_max; burst_short = e.burst_short; group = e.group; warmup = e.warmup })

pub new-requires-clause-few : goal.new-requires-clause-few
new-requires-clause-few c = subst (λ (q : Source). length q.packets < 2 ^ 32) (sym c.new-source.ensures) (omega arith)

pub bytes_of-requires : goal.bytes_of-requires
bytes_of-requires c = (not_begun c.args.link.now c.new-source.result, c.in_ok-transmitter.ensures)

-- One more byte.
use Rattle.std.proofs.Common.{◌<◌, ◌≤◌, refl, get_or, arith}
use Rattle.lane_events.proofs.Pieces.{none_numbered, number_low, one_numbered}
use Rattle.lane_events.proofs.windows.number_of.Goals as goal

pub loop-byte-init : goal.loop-byte-init
loop-byte-init c = none_numbered c.args.piece.now

pub overflow_mul-bits : goal.overflow_mul-bits
overflow_mul-bits c =
    let few : c.loop-byte.byte-index ≤ 6 = (let t = c.loop-byte-test.true in let m = c.requires in omega (arith, t, m)) in
    let low = number_low c.args.piece.now c.loop-byte.byte-index c.loop-byte.bits few c.loop-byte.invariant in
    omega (arith, low)

pub loop-byte-preserved : goal.loop-byte-preserved
loop-byte-preserved c =
    let low : get_or c.args.piece.now c.loop-byte.byte-index 0 < 256 = (let b = c.type_inv.piece c.loop-byte.byte-index in omega (arith, b)) in
    one_numbered c.args.piece.now c.loop-byte.byte-index c.loop-byte.bits (get_or c.args.piece.now c.loop-byte.byte-index 0) c.loop-byte-test.true low refl c.loop-byte.invariant

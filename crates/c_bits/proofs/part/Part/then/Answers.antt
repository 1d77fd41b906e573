-- One byte more.
use Rattle.std.proofs.Common.{◌<◌, get_or, refl, arith}
use Rattle.c_bits.proofs.Numbers.{then_more}
use Rattle.c_bits.proofs.part.Part.then.Goals as goal

pub loop-byte-preserved : goal.loop-byte-preserved
loop-byte-preserved c =
    let low : get_or c.args.bytes.now c.loop-byte.byte-index 0 < 256 = (let b = c.type_inv.bytes c.loop-byte.byte-index in omega (arith, b)) in
    then_more c.args.self.now.count c.loop-byte.byte-index 0 c.args.self.now.bits c.loop-byte.number (get_or c.args.bytes.now c.loop-byte.byte-index 0) c.args.bytes.now
    c.args.self.now.few c.requires c.loop-byte-test.true refl low c.loop-byte.invariant

-- Bits after a part.
use Rattle.c_bits.proofs.Numbers.{part_with}
use Rattle.c_bits.proofs.part.Part.with.Goals as goal

pub returns : goal.returns
returns c = part_with c.args.self.now.count c.args.count c.args.self.now.bits c.args.bits c.args.self.now.few c.requires

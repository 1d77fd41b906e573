-- No bit of an earlier byte is left.
use Rattle.std.proofs.Common.{ap, ◌++◌}
use Rattle.lk_base.specs.Checksum.{bits_of_bytes}
use Rattle.lk_base.proofs.Bits.{no_bits}
use Rattle.coding_67b.proofs.reader.BitReader.new.Goals as goal

pub returns : goal.returns
returns c = ap (λ bits. bits ++ bits_of_bytes c.args.bytes.now) (no_bits 0)

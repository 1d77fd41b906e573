-- No bit waits.
use Rattle.lk_base.proofs.Bits.{no_bits}
use Rattle.coding_67b.proofs.writer.BitWriter.new.Goals as goal

pub returns : goal.returns
returns c = no_bits 0

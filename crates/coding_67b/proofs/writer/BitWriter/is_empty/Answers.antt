-- Where the count is 0, there is no bit.
use Rattle.std.proofs.Common.{sym, ap, ◌∙◌, eq-eqb, eqb-true}
use Rattle.lk_base.specs.Checksum.{bits_of}
use Rattle.coding_67b.proofs.Cut.{empty_is}
use Rattle.lk_base.proofs.Bits.{no_bits}
use Rattle.coding_67b.proofs.writer.BitWriter.is_empty.Goals as goal

pub returns : goal.returns
returns c = (
  λ e. sym c.self.view_is ∙ ap (λ n. bits_of n c.self.inside.bits) (eqb-true c.self.inside.count 0 e) ∙ no_bits c.self.inside.bits,
  λ e. eq-eqb c.self.inside.count 0 (empty_is c.self.inside.count c.self.inside.bits (c.self.view_is ∙ e)),
)

-- Whole bytes, and then a part.
use Rattle.std.proofs.Common.{◌+◌, ◌-◌, ◌/◌, ◌%◌, ◌++◌, ap, ◌∙◌, arith, drop}
use Rattle.lk_base.specs.Checksum.{bits_of_bytes}
use Rattle.lane_model.proofs.Numbers.{length-bits_of}
use Rattle.c_bits.proofs.Numbers.{cut_is}
use Rattle.c_bits.proofs.cut.Cut.of.Goals as goal

pub returns : goal.returns
returns c =
    let total = c.args.part.now.count + c.args.count in
    let before = c.args.part.now.few in
    let most = c.requires in
    let many = length-bits_of c.low.result.count c.low.result.bits in
    let few = c.low.result.few in record {
      bits = ap (λ b. bits_of_bytes (drop (8 - total / 8) c.to_be_bytes.result) ++ b) c.low.ensures.bits
          ∙ cut_is total (total / 8) (total % 8) c.with-number.result c.to_be_bytes.result (omega (arith, before, most)) (omega arith) c.to_be_bytes.ensures
          ∙ c.with-number.ensures;
      few = omega (arith, many, few);
    }

-- How many bits were taken.
use Rattle.std.proofs.Common.{◌-◌, ◌*◌, ◌≡◌, ◌==◌, ap, ◌∙◌, sym, arith, false, length}
use Rattle.std.specs.Prelude.{if◌then◌else◌}
use Rattle.std.proofs.lemmas.Bool.{ne_eqb}
use Rattle.c_bits.proofs.PartsHold.{count_is}
use Rattle.c_bits.specs.Bits.{part_of}
use Rattle.c_bits.proofs.lane_parts.LaneParts.settle.Goals as goal

pub overflow_cast-result : goal.overflow_cast-result
overflow_cast-result c =
    let same = ap length c.bytes.ensures.bytes in
    let few = c.bytes.ensures.few in
    let most = c.requires in record { fits = omega (arith, same, few, most) }

pub overflow_mul-result : goal.overflow_mul-result
overflow_mul-result c =
    let same = ap length c.bytes.ensures.bytes in
    let few = c.bytes.ensures.few in
    let most = c.requires in record { fits = omega (arith, same, few, most) }

pub returns-clause-taken : goal.returns-clause-taken
returns-clause-taken c =
    let other : (c.args.bytes == length c.args.cut.now.bytes) ≡ false = ne_eqb c.args.bytes (length c.args.cut.now.bytes) (λ e. c.if-bytes.false (e ∙ ap length (sym c.bytes.ensures.bytes))) in
    let many = count_is c.of-old.result _ c.of-old.ensures in
    sym (ap (λ b. if b then c.args.count else 8 * c.args.bytes - length (part_of c.args.lane c.args.self.now)) other ∙ ap (λ n. 8 * c.args.bytes - n) many)

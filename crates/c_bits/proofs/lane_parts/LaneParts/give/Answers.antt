-- Bits are given, and fewer than eight are left.
use Rattle.std.proofs.Common.{◌≡◌, ◌≤◌, ◌<◌, ◌+◌, ◌-◌, ◌*◌, ◌/◌, ◌%◌, ◌^◌, ◌++◌, ℕ, ap, ◌∙◌, arith, length, min, subst, sym}
use Rattle.lk_base.specs.Checksum.{bits_of, bits_of_bytes}
use Rattle.c_bits.specs.PartBits.{bits_in}
use Rattle.c_bits.proofs.Numbers.{below, given_are}
use Rattle.c_bits.proofs.PartsHold.{count_is, few_left, few_bits, sum_is}
use Rattle.c_bits.proofs.lane_parts.LaneParts.give.Goals as goal

pub low-requires : goal.low-requires
low-requires c = few_left c.of-old.result _ (length c.args.bytes.now) c.args.count c.min-taken.result c.of-old.ensures c.requires.bytes c.min-taken.ensures

pub returns : goal.returns
returns c =
    let available : ℕ = c.of-old.result.count + 8 * length c.args.bytes.now in
    let taken : ℕ = c.min-taken.result in
    let rest : ℕ = available - taken in
    let number : ℕ = c.then-number.result in
    let least = c.min-taken.ensures in
    let all : taken + rest ≡ available = omega (arith, least) in (
      bits_in c.low.result,
      record {
        bits = ap (λ x. bits_of taken x ++ bits_in c.low.result) c.low_bits.ensures
            ∙ ap (λ b. bits_of taken (number / 2 ^ rest % 2 ^ taken) ++ b) c.low.ensures.bits
            ∙ given_are taken rest available number all
            ∙ c.then-number.ensures
            ∙ ap (λ b. b ++ bits_of_bytes c.args.bytes.now) c.of-old.ensures;
        few = few_bits c.low.result;
        no_more = subst (λ (x : ℕ). x < 2 ^ taken) (sym c.low_bits.ensures) (below (number / 2 ^ rest) taken);
        most = least ∙ ap (λ n. min c.args.count n) (sym (sum_is c.of-old.result _ c.args.bytes.now c.of-old.ensures));
      },
      c.put.ensures,
    )

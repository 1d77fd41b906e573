-- The bytes that complete bits.
use Rattle.std.proofs.Common.{◌+◌, ◌-◌, ◌/◌, ap, ◌∙◌, arith, sym}
use Rattle.c_bits.proofs.PartsHold.{count_is}
use Rattle.c_bits.proofs.lane_parts.LaneParts.bytes_for.Goals as goal

pub returns-clause-count : goal.returns-clause-count
returns-clause-count c = ap (λ n. (n + 7) / 8) (c.saturating_sub.ensures ∙ ap (λ n. c.args.count - n) (sym (count_is c.of-part.result _ c.of-part.ensures)))

pub returns-clause-few : goal.returns-clause-few
returns-clause-few c =
    let left = c.saturating_sub.ensures in
    let most = c.requires in omega (arith, left, most)

use Rattle.std.proofs.Common.{◌+◌, ◌≤◌, ◌∙◌, sym, ap₂, ℕ, length, drop, get_or, arith, rules}
use Rattle.lk_base.specs.Checksum.{bits_of_bytes}
use Rattle.damage_commands.proofs.Differing.{few_byte, few_yet, none_yet, one_more}
use Rattle.damage_commands.proofs.struck.struck_bits.Goals as goal

pub loop-i-init : goal.loop-i-init
loop-i-init c = sym (none_yet (drop c.args.skew (bits_of_bytes c.args.received.now)) c.args.sent.now)

pub overflow_add-struck : goal.overflow_add-struck
overflow_add-struck c =
    let le : c.loop-i.i ≤ length c.args.sent.now = search rules in
    let so_far = few_yet (drop c.args.skew (bits_of_bytes c.args.received.now)) c.args.sent.now c.loop-i.i le in
    let is = c.loop-i.invariant in
    let more = c.differing_bits-struck.ensures in
    let here = few_byte c.byte_at.result (get_or c.args.sent.now c.loop-i.i 0) in
    omega (arith, so_far, is, more, here, c.requires.few)

pub loop-i-preserved : goal.loop-i-preserved
loop-i-preserved c =
    let bits = bits_of_bytes c.args.received.now in
    ap₂ (λ (m n : ℕ). m + n) c.loop-i.invariant c.differing_bits-struck.ensures
    ∙ sym (one_more bits c.args.sent.now c.args.skew c.loop-i.i c.byte_at.result c.loop-i-test.true c.byte_at.ensures)

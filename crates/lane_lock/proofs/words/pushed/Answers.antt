-- The new bits below those that were there.
use Rattle.std.proofs.Common.{ℕ, ◌≡◌, ap, ◌∙◌, ◌-◌, ◌*◌, ◌%◌, ◌^◌, arith, bit_and, bit_or}
use Rattle.lane_lock.proofs.Cutting.{pushed_is}
use Rattle.lane_lock.proofs.words.pushed.Goals as goal

pub returns-clause-value : goal.returns-clause-value
returns-clause-value c =
    let most = c.requires.most in
    let e : c.args.count % 64 ≡ c.args.count = omega (arith, most) in
    ap (λ (n : ℕ). bit_and (bit_or (c.args.window * 2 ^ n % 2 ^ 128) c.args.bits) (2 ^ 67 - 1)) e
    ∙ pushed_is c.args.window c.args.bits c.args.count c.requires.window most c.requires.bits

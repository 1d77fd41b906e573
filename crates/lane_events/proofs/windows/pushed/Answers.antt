-- The new bits below those that were there.
use Rattle.std.proofs.Common.{ℕ, ◌≡◌, ap, ◌∙◌, ◌*◌, ◌%◌, ◌^◌, arith, bit_or}
use Rattle.lane_events.proofs.LastBits.{pushed_is}
use Rattle.lane_events.proofs.windows.pushed.Goals as goal

pub returns : goal.returns
returns c =
    let most = c.requires.most in
    let e : c.args.count % 64 ≡ c.args.count = omega (arith, most) in
    ap (λ (n : ℕ). bit_or (c.args.window * 2 ^ n % 2 ^ 128) c.args.bits) e ∙ pushed_is c.args.window c.args.bits c.args.count (omega (arith, most)) c.requires.bits

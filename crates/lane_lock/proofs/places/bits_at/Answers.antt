-- Some bits of eight bytes.
use Rattle.std.proofs.Common.{◌+◌, ◌-◌, ◌*◌, ◌≤◌, length, ap, ◌∙◌, arith}
use Rattle.lk_base.specs.Checksum.{bits_of}
use Rattle.lane_lock.proofs.Loads.{some_bits}
use Rattle.lane_lock.proofs.places.bits_at.Goals as goal

pub returns-clause-bits : goal.returns-clause-bits
returns-clause-bits c =
    let place = c.min-place.result in
    let is = c.min-place.ensures in
    let long = c.requires.long in
    let there = c.requires.there in
    let most = c.requires.most in
    let from : 8 * place ≤ c.args.at = omega (arith, is) in
    let room : place + 8 ≤ length c.args.bytes.now = omega (arith, is, long) in
    let fits : c.args.width + (c.args.at - 8 * place) ≤ 64 = omega (arith, is, long, there, most) in
    ap (bits_of c.args.width) c.last_bits.ensures.value
    ∙ some_bits c.args.bytes.now place c.args.width (64 - c.args.width - (c.args.at - 8 * place)) c.args.at c.eight_at.result from room (omega (arith, fits)) c.eight_at.ensures

-- The bits of a code in 16 bytes.
use Rattle.std.proofs.Common.{◌+◌, ◌-◌, ◌*◌, ◌≤◌, length, arith}
use Rattle.lane_lock.proofs.Loads.{code_bits}
use Rattle.lane_lock.proofs.places.code_at.Goals as goal

pub returns-clause-bits : goal.returns-clause-bits
returns-clause-bits c =
    let place = c.min-place.result in
    let is = c.min-place.ensures in
    let long = c.requires.long in
    let there = c.requires.there in
    let from : 8 * place ≤ c.args.at = omega (arith, is) in
    let room : place + 16 ≤ length c.args.bytes.now = omega (arith, is, long) in
    let fits : c.args.at - 8 * place ≤ 61 = omega (arith, is, long, there) in
    code_bits c.args.bytes.now place (61 - (c.args.at - 8 * place)) c.args.at c.eight_at-high.result c.eight_at-low.result from room (omega (arith, fits))
    c.eight_at-high.type_inv c.eight_at-low.type_inv c.eight_at-high.ensures c.eight_at-low.ensures

-- The first fault that is due is given.
use Rattle.std.proofs.Common.{◌<◌, length, arith}
use Rattle.live_checker.specs.Standing.{with_given}
use Rattle.live_checker.proofs.Standing.{given_kept}
use Rattle.live_checker.proofs.checker.LiveChecker.next.Goals as goal

pub invariant_of-self : goal.invariant_of-self
invariant_of-self c =
    let v = c.self.inside in
    let (room, part, whole) = c.self.invariant in
    let (x, k) = whole in
    let lt : v.given < length v.found.items = omega (arith, part, c.if-self-len.false, c.len.ensures, v.found.ok) in
    let fault = c.index-fault.result.now in
    (room, omega (arith, lt), (with_given fault x, given_kept v.checker v.found.items v.given v.finished x k fault fault lt c.index-fault.ensures))

-- The words are ended.
use Rattle.live_checker.specs.Standing.{with_end}
use Rattle.live_checker.proofs.Standing.{end_kept}
use Rattle.live_checker.proofs.checker.LiveChecker.finish.Goals as goal

pub invariant_of-self : goal.invariant_of-self
invariant_of-self c =
    let v = c.self.inside in
    let (room, part, whole) = c.self.invariant in
    let (x, k) = whole in
    (room, part, (with_end x, end_kept v.checker v.found.items v.given v.finished x k))

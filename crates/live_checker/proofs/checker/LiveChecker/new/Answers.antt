-- No word came.
use Rattle.std.proofs.Common.{refl, arith}
use Rattle.live_checker.specs.Standing.{nothing_checked}
use Rattle.live_checker.proofs.checker.LiveChecker.new.Goals as goal

pub invariant_of-result : goal.invariant_of-result
invariant_of-result c = (
  omega (arith, c.in_ok-found.ensures.exact),
  omega arith,
  (
    nothing_checked c.args.limits c.args.channels.now c.args.entries.now,
    record {
      keeps = c.in_ok-checker.ensures;
      few = omega arith;
      heard = λ i d lt. omega arith;
      in_order = λ i j le lt. omega arith;
      told = c.in_ok-found.ensures.items;
      ended = refl;
    },
  ),
)

-- Calls of `next` are made, up to the first none.
use Rattle.std.proofs.Common.{◌≡◌, ℕ, Option, length, subst, arith}
use Rattle.live_gatherer.specs.Calls.{IsNext}
use Rattle.live_gatherer.specs.declared.types.Gathered.{Gathered}
use Rattle.c_gatherer.specs.Many.{GivesMany}
use Rattle.c_gatherer.proofs.Nexts.{full_given, none_given, none_left, one_given}
use Rattle.c_gatherer.proofs.many.give_many.Goals as goal

pub loop-count-init : goal.loop-count-init
loop-count-init c = none_given _ _

pub loop-count-preserved : goal.loop-count-preserved
loop-count-preserved c =
    one_given _ _ _ c.in-Some.given _ _ _ c.loop-count.count (omega (arith, c.loop-count-test.true)) c.loop-count.invariant c.in-Some.ensures c.shown.ensures

pub returns-in_default : goal.returns-in_default
returns-in_default c =
    none_left _ c.loop-count.gatherer c.next.new.self _ _ c.loop-count.count c.loop-count.invariant
    (subst (λ (r : Option Gathered). IsNext c.loop-count.gatherer c.next.new.self r) c.in_default.is c.next.ensures)

pub returns : goal.returns
returns c =
    let all : c.loop-count.count ≡ length c.args.out.now = omega (arith, c.loop-count-test.false) in
    subst (λ (n : ℕ). GivesMany c.args.gatherer.now c.loop-count.gatherer c.args.out.now c.loop-count.out n) all (full_given _ _ _ _ c.loop-count.count all c.loop-count.invariant)

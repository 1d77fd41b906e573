-- A fresh front.
use Rattle.std.proofs.Common.{refl, sym, ap, ◌∙◌, subst, false, List, [], arith}
use Rattle.lk_base.specs.declared.word.Aligned.{Aligned}
use Rattle.lk_base.specs.Link.{Settings}
use Rattle.rx_front.specs.Calls.{nothing_fed}
use Rattle.rx_front.specs.Standing.{Stands, begun}
use Rattle.rx_front.proofs.Covering.{covered_by_ones}
use Rattle.rx_front.proofs.Feeding.{fresh_stands}
use Rattle.rx_front.proofs.front.Front.new.Goals as goal

pub returns : goal.returns
returns c = (
  subst (λ (waiting : List Aligned). Stands (record { lanes = c.in_ok-lanes.lanes.items; left = 0; deskew = c.in_ok-deskew.deskew; waiting = waiting; over = false }) c.args.link.now (nothing_fed c.args.link.now.lanes) [] (begun c.args.link.now.lanes)) (sym c.in_ok-block.ensures)
      (fresh_stands c.args.link.now c.in_ok-lanes.lanes.items c.in_ok-deskew.deskew c.keeps_limits.ensures c.in_ok-lanes.ensures.count c.in_ok-lanes.ensures.each c.in_ok-deskew.ensures.1),
  c.in_ok-block.ensures,
  refl,
  c.in_ok-deskew.ensures.0,
)

pub invariant_of-result : goal.invariant_of-result
invariant_of-result c =
    let count = c.in_ok-lanes.ensures.count in
    let limits = c.keeps_limits.ensures.lanes in
    let few = limits.1 in
    let some = limits.0 in
    let wide = c.in_ok-lanes.ensures.wide in (
      count ∙ ap (λ (s : Settings). s.lanes) (sym c.in_ok-deskew.ensures.1.keeps.settings),
      omega (arith, count, few),
      omega (arith, count, some),
      omega arith,
      omega arith,
      wide,
      covered_by_ones 8 c.in_ok-lanes.lanes.items (omega arith) wide,
    )

-- One more lane.
use Rattle.std.proofs.Common.{◌≡◌, sym, ap, subst, length, List, [], ◌∷◌, All, arith}
use Rattle.std.proofs.lemmas.List.{length-append}
use Rattle.std.proofs.lemmas.List.Elements.{All-push}
use Rattle.rx_front.specs.States.{Lane}
use Rattle.rx_front.specs.Lanes.{AreWide, IsFresh}
use Rattle.rx_front.proofs.lanes.fresh_lanes.Goals as goal

pub loop-lane-preserved : goal.loop-lane-preserved
loop-lane-preserved c = record {
  count = (let a = ap length c.in_ok-push.ensures.items in let b = length-append c.loop-lane.lanes.items (c.in_ok-lane.lane ∷ []) in let d = c.loop-lane.invariant.count in omega (arith, a, b, d));
  each = subst (λ (vs : List Lane). All (λ v. IsFresh c.args.link.now v) vs) (sym c.in_ok-push.ensures.items)
      (All-push (λ v. IsFresh c.args.link.now v) c.loop-lane.lanes.items c.in_ok-lane.lane c.loop-lane.invariant.each c.in_ok-lane.ensures.0);
  wide = subst (AreWide 8) (sym c.in_ok-push.ensures.items) (All-push (λ v. length v.steps ≡ 8) c.loop-lane.lanes.items c.in_ok-lane.lane c.loop-lane.invariant.wide c.in_ok-lane.ensures.1);
}

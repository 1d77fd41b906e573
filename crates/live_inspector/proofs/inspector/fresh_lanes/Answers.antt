-- One more lane is made.
use Rattle.std.proofs.Common.{◌+◌, ◌∙◌, ap, length, arith}
use Rattle.std.proofs.lemmas.List.{length_push}
use Rattle.live_inspector.proofs.AllLanes.{one_fresh}
use Rattle.live_inspector.proofs.inspector.fresh_lanes.Goals as goal

pub loop-number-init : goal.loop-number-init
loop-number-init c = (ap length c.new-lanes.ensures.items, λ i d h. absurd (omega (arith, h)))

pub loop-number-preserved : goal.loop-number-preserved
loop-number-preserved c = (
  ap length c.in_ok-push.ensures.items ∙ length_push c.loop-number.lanes.items c.in_ok-lane.lane ∙ ap (λ m. m + 1) c.loop-number.invariant.0,
  one_fresh c.args.link.now c.loop-number.lanes.items c.push.new.self.items c.in_ok-lane.lane c.loop-number.number c.in_ok-push.ensures.items c.loop-number.invariant.0 c.loop-number.invariant.1 c.in_ok-lane.ensures,
)

-- Lanes that have ended are before a Sync.
use Rattle.std.proofs.Common.{◌≡◌, ◌∙◌, sym, ap, not, false}
use Rattle.lane_model.specs.Framing.{role_of}
use Rattle.metaframe.specs.Writing.{is_payload}
use Rattle.live_lanes.specs.Lanes.{wants_payload}
use Rattle.live_lanes.proofs.live.LiveLanes.wants_payload.Goals as goal

pub returns-else-not-self : goal.returns-else-not-self
unfolding role_of
returns-else-not-self c =
    let v = c.self.inside in
    let (p, k) = c.self.invariant in
    let at : is_payload (role_of v.link v.place) ≡ false = ap (λ n. is_payload (role_of v.link n)) (k.whole c.if-not-self.false) in
    ap not c.if-not-self.false ∙ sym at ∙ ap wants_payload c.self.view_is

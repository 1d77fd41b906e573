-- Bytes of a lane are taken.
use Rattle.std.proofs.Common.{ℕ, ◌≡◌, ◌∙◌, ◌<◌, ◌==◌, cond, sym, subst, ap, List, length, set, take, drop, rules}
use Rattle.live_lanes.specs.States.{Lanes, lanes_of}
use Rattle.live_lanes.specs.Lanes.{waiting_on}
use Rattle.live_lanes.specs.Standing.{Stands, took}
use Rattle.live_lanes.proofs.Stepping.{gone_here, took_here, waits_here}
use Rattle.live_lanes.proofs.live.LiveLanes.take.Goals as goal

pub invariant_of-self : goal.invariant_of-self
invariant_of-self c =
    let v = c.self.inside in
    let (p, k) = c.self.invariant in (
      took c.args.lane (take c.take.result c.index_mut.result.now.waiting) p,
      took_here v.link v.lanes.items v.place v.ended c.args.lane c.take.result c.index_mut.result.now c.take.new.self c.index_mut.ensures.value c.take.ensures.rest (search rules) p k,
    )

pub returns-clause-gone : goal.returns-clause-gone
returns-clause-gone c i =
    let v = c.self.inside in
    gone_here v.link v.lanes.items v.place v.ended c.args.lane c.take.result c.index_mut.result.now c.take.new.self c.index_mut.ensures.value c.take.ensures.rest (search rules) i
    ∙ ap (λ (old : Lanes). cond (i == c.args.lane) (drop c.take.result (waiting_on i old)) (waiting_on i old)) c.self.view_is

pub returns-clause-stands : goal.returns-clause-stands
returns-clause-stands c p k =
    let v = c.self.inside in
    let here : c.args.lane < length v.lanes.items = search rules in
    let waits : c.index_mut.result.now.waiting ≡ waiting_on c.args.lane c.args.self.now =
    sym (waits_here v.link v.lanes.items v.place v.ended c.args.lane c.take.result c.index_mut.result.now c.take.new.self c.index_mut.ensures.value c.take.ensures.rest here)
    ∙ ap (waiting_on c.args.lane) c.self.view_is in
    subst (λ (b : List ℕ). Stands (lanes_of v.link (set v.lanes.items c.args.lane c.take.new.self) v.place v.ended) (took c.args.lane (take c.take.result b) p)) waits
    (took_here v.link v.lanes.items v.place v.ended c.args.lane c.take.result c.index_mut.result.now c.take.new.self c.index_mut.ensures.value c.take.ensures.rest here p
    (subst (λ (old : Lanes). Stands old p) (sym c.self.view_is) k))

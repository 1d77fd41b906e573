use Rattle.std.proofs.Common.{◌≡◌, ◌∙◌, ◌<◌, ◌+◌, ◌++◌, ◌∷◌, [], List, ℕ, Vec, length, take, get_or, sym, ap, subst, arith}
use Rattle.std.specs.declared.alloc.Global.{Global}
use Rattle.std.proofs.lemmas.List.{get_or-map, get_or_read, length-map, take_more}
use Rattle.link_plan.specs.ScheduleViews.{schedule_value}
use Rattle.link_plan.specs.Views.{plan_value}
use Rattle.run_stops.specs.Reading.{vec_items}
use Rattle.run_shell.specs.Rests.{join, rests_of}
use Rattle.run_shell.proofs.Rests.{join_given}
use Rattle.damage_commands.specs.Damage.{IsArrived, line_of}
use Rattle.damage_commands.specs.Making.{GaveLanes, lanes_of}
use Rattle.damage_commands.proofs.Makers.{lane_gave, outputs_count}
use Rattle.damage_commands.proofs.lane_maker.DamageMakerMaker.step.Goals as goal

pub give_owned-requires : goal.give_owned-requires
give_owned-requires c =
    let (done, g) = c.requires.stands in
    let plan = plan_value c.args.self.now.inputs.now.plan in
    let many = outputs_count c.args.outputs.now plan.out plan.settings.lanes c.requires.opens in
    omega (arith, many, g.many, g.within, c.if-number-lanes.false, c.lanes.ensures)

pub returns-clause-gave : goal.returns-clause-gave
returns-clause-gave c = λ done g.
    let m = c.args.self.now in
    let i = m.inputs.now in
    let schedule = schedule_value i.schedule in
    let lanes = i.lanes.items in
    let sent : Vec ℕ Global = c.index-sent.result.now in
    let bytes = c.in_ok-received.received.items in
    let lt : m.count < length lanes = omega (arith, g.many, g.within, c.if-number-lanes.false, c.lanes.ensures) in
    let here : get_or lanes m.count sent ≡ sent = sym (get_or_read lanes m.count sent lt c.index-sent.ensures sent) in
    let seam : take (m.count + 1) (lanes_of i) ≡ take m.count (lanes_of i) ++ sent.items ∷ [] =
    take_more (lanes_of i) m.count [] (omega (arith, lt, length-map lanes vec_items)) ∙ ap (λ (l : List ℕ). take m.count (lanes_of i) ++ l ∷ []) (get_or-map vec_items lanes m.count sent [] lt ∙ ap vec_items here) in
    subst (λ (gs : List (List ℕ)). GaveLanes i c.received_lane.new.lines (m.count + 1) gs) (sym (join_given done (rests_of c.args.outputs.now) _ m.count bytes (c.in_ok-give_owned.ensures {u = tt}).given))
    (lane_gave i m.lines m.count (join done (rests_of c.args.outputs.now)) g c.received_lane.new.lines sent.items bytes lt seam
    (subst (λ (l : List ℕ). IsArrived schedule m.count l bytes) c.deref.ensures.value c.in_ok-received.ensures.arrived)
    (c.in_ok-received.ensures.told ∙ ap (λ (l : List ℕ). m.lines.items ++ line_of schedule m.count l) c.deref.ensures.value))

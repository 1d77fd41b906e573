-- The step of one more lane.
use Rattle.std.proofs.Common.{ap, ◌∙◌, map, arith}
use Rattle.std.proofs.lemmas.List.{length-map}
use Rattle.lk_base.specs.Link.{Settings}
use Rattle.lock_model.specs.declared.types.LaneStep.TheVariants as steps
use Rattle.deskew.proofs.Taking.{took_all, took_more, took_none}
use Rattle.rx_front.specs.Lanes.{step_at}
use Rattle.rx_front.proofs.Locks.{step_there}
use Rattle.rx_front.proofs.lanes.show_steps.Goals as goal

pub take_step-requires-clause-lane : goal.take_step-requires-clause-lane
take_step-requires-clause-lane c =
    let s = ap (λ (z : Settings). z.lanes) c.loop-i.invariant.settings in
    let n = c.requires.count in
    let t = c.loop-i-test.true in
    omega (arith, s, n, t)

pub loop-i-init : goal.loop-i-init
loop-i-init c = took_none c.args.deskew.now (map (step_at c.args.k) c.args.lanes.now)

pub loop-i-preserved : goal.loop-i-preserved
loop-i-preserved c =
    let l = length-map c.args.lanes.now (step_at c.args.k) in
    let t = c.loop-i-test.true in
    took_more c.loop-i.i c.args.deskew.now c.loop-i.deskew c.take_step.new.self (map (step_at c.args.k) c.args.lanes.now) c.step.result (omega (arith, l, t)) (l ∙ c.requires.count) c.take_step.ensures.count c.loop-i.invariant
    (c.step.ensures.value ∙ ap (step_at c.args.k) c.index-lanes-i.is ∙ step_there c.args.k c.loop-i.i c.args.lanes.now c.index-lanes-i.result steps.Nothing t) c.take_step.ensures.taken

pub returns : goal.returns
returns c =
    let l = length-map c.args.lanes.now (step_at c.args.k) in
    let f = c.loop-i-test.false in
    let s = c.requires.some in
    took_all c.loop-i.i c.args.deskew.now c.loop-i.deskew (map (step_at c.args.k) c.args.lanes.now) (omega (arith, f, s)) (omega (arith, l, f)) (l ∙ c.requires.count) c.loop-i.invariant

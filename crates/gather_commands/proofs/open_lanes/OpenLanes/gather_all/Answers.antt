use Rattle.std.proofs.Common.{◌∙◌, arith}
use Rattle.std.proofs.lemmas.Result.{err_from_is_err_and}
use Rattle.rx_front.specs.Calls.{nothing_fed}
use Rattle.run_stops.specs.declared.stop.Stop.TheVariants as stop
use Rattle.lane_receipts.proofs.Beginnings.{nothing_offsets}
use Rattle.gather_commands.proofs.Fed.{lane_is}
use Rattle.gather_commands.proofs.Taken.{gathered_broken, taken_gathering}
use Rattle.gather_commands.proofs.open_lanes.OpenLanes.gather_all.Goals as goal

pub take_lanes-requires-clause-gathering : goal.take_lanes-requires-clause-gathering
take_lanes-requires-clause-gathering g c =
    let link = c.args.plan.now.link in
    let (out, was, at) = c.requires.gathering in
    (out, link, nothing_fed link.lanes, was, at, c.deref_mut.ensures.value ∙ c.requires.offsets ∙ nothing_offsets link.lanes)

pub returns-in_err-take_lanes-clause-takes : goal.returns-in_err-take_lanes-clause-takes
returns-in_err-take_lanes-clause-takes g c out was at =
    let link = c.args.plan.now.link in
    let p = err_from_is_err_and c.from_residual.result c.from_residual.ensures.1 in
    rw (p.1, p.2) (c.in_err-take_lanes.ensures.takes out link (nothing_fed link.lanes) was at (c.deref_mut.ensures.value ∙ c.requires.offsets ∙ nothing_offsets link.lanes))

pub lane_lines-requires : goal.lane_lines-requires
lane_lines-requires g c =
    let link = c.args.plan.now.link in
    let (out, was, at) = c.requires.gathering in
    let all = c.in_ok-take_lanes.ensures.takes out link (nothing_fed link.lanes) was at (c.deref_mut.ensures.value ∙ c.requires.offsets ∙ nothing_offsets link.lanes) in
    let st = all.taken.stands in
    let held = (lane_is 0 c.take_lanes.new.gatherer.front.lanes link all.taken.progress.rounds all.fed all.taken.progress.columns st.lanes).0 ∙ st.lane_count in
    let many = c.lanes.ensures in
    omega (arith, held, many)

pub returns-in_err-text-clause-takes : goal.returns-in_err-text-clause-takes
returns-in_err-text-clause-takes g c out was at =
    let link = c.args.plan.now.link in
    let all = c.in_ok-take_lanes.ensures.takes out link (nothing_fed link.lanes) was at (c.deref_mut.ensures.value ∙ c.requires.offsets ∙ nothing_offsets link.lanes) in
    let p = err_from_is_err_and c.from_residual-in_err-text.result c.from_residual-in_err-text.ensures.1 in
    rw (p.1, p.2) (gathered_broken out link (nothing_fed link.lanes) all.fed _ _ stop.OutOfMemory was _ c.take_lanes.new.gatherer (taken_gathering out link all.fed c.take_lanes.new.gatherer was _ all.taken)
    (λ lanes are begin. (all.from lanes are begin, tt)))

pub returns-clause-takes : goal.returns-clause-takes
returns-clause-takes g c out was at =
    let link = c.args.plan.now.link in
    c.in_ok-take_lanes.ensures.takes out link (nothing_fed link.lanes) was at (c.deref_mut.ensures.value ∙ c.requires.offsets ∙ nothing_offsets link.lanes)

pub returns-clause-lines : goal.returns-clause-lines
returns-clause-lines g c =
    let (reports, counted, text, each) = c.in_ok-text.ensures in
    (reports, counted ∙ c.lanes.ensures, text, each)

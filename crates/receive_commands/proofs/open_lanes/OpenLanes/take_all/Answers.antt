use Rattle.std.proofs.Common.{◌∙◌, arith, []}
use Rattle.std.proofs.lemmas.Result.{err_from_is_err_and}
use Rattle.rx_front.specs.Calls.{nothing_fed}
use Rattle.rx_end.proofs.Pieces.{lanes_are_those}
use Rattle.run_stops.specs.declared.stop.Stop.TheVariants as stop
use Rattle.lane_receipts.proofs.Beginnings.{nothing_offsets}
use Rattle.lane_receipts.proofs.LaneEvents.{memory_cut}
use Rattle.lane_receipts.proofs.TakenLanes.{cut_broken}
use Rattle.receive_commands.proofs.open_lanes.OpenLanes.take_all.Goals as goal

pub take_lanes-requires-clause-taking : goal.take_lanes-requires-clause-taking
take_lanes-requires-clause-taking g c =
    let link = c.args.plan.now.link in
    let (b, at) = c.requires.taking in
    (b, link, nothing_fed link.lanes, [], at, c.deref_mut.ensures.value ∙ c.requires.offsets ∙ nothing_offsets link.lanes)

pub returns-in_err-take_lanes-clause-takes : goal.returns-in_err-take_lanes-clause-takes
returns-in_err-take_lanes-clause-takes g c b at =
    let link = c.args.plan.now.link in
    let p = err_from_is_err_and c.from_residual.result c.from_residual.ensures.1 in
    rw (p.1, p.2) (c.in_err-take_lanes.ensures.takes b link (nothing_fed link.lanes) [] at (c.deref_mut.ensures.value ∙ c.requires.offsets ∙ nothing_offsets link.lanes))

pub lane_lines-requires : goal.lane_lines-requires
lane_lines-requires g c =
    let link = c.args.plan.now.link in
    let (b, at) = c.requires.taking in
    let all = c.in_ok-take_lanes.ensures.takes b link (nothing_fed link.lanes) [] at (c.deref_mut.ensures.value ∙ c.requires.offsets ∙ nothing_offsets link.lanes) in
    let held = (lanes_are_those c.take_lanes.new.receiver link b.setting all.fed all.given 0 all.drained.taking.stands).0 ∙ all.drained.taking.stands.front.lane_count in
    let many = c.lanes.ensures in
    omega (arith, held, many)

pub returns-in_err-text-clause-takes : goal.returns-in_err-text-clause-takes
returns-in_err-text-clause-takes g c b at =
    let link = c.args.plan.now.link in
    let all = c.in_ok-take_lanes.ensures.takes b link (nothing_fed link.lanes) [] at (c.deref_mut.ensures.value ∙ c.requires.offsets ∙ nothing_offsets link.lanes) in
    let p = err_from_is_err_and c.from_residual-in_err-text.result c.from_residual-in_err-text.ensures.1 in
    rw (p.1, p.2) (cut_broken b link (nothing_fed link.lanes) all.fed _ _ stop.OutOfMemory _ all.from (memory_cut b link all.fed all.given c.take_lanes.new.receiver c.take_lanes.new.receiver c.take_lanes.new.receipt _ all.drained.taking))

pub returns-clause-takes : goal.returns-clause-takes
returns-clause-takes g c b at =
    let link = c.args.plan.now.link in
    c.in_ok-take_lanes.ensures.takes b link (nothing_fed link.lanes) [] at (c.deref_mut.ensures.value ∙ c.requires.offsets ∙ nothing_offsets link.lanes)

pub returns-clause-lines : goal.returns-clause-lines
returns-clause-lines g c =
    let (reports, counted, text, each) = c.in_ok-text.ensures in
    (reports, counted ∙ c.lanes.ensures, text, each)

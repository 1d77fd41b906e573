use Rattle.std.proofs.Common.{refl}
use Rattle.std.proofs.lemmas.Result.{err_from_is_err_and}
use Rattle.run_shell.specs.Outputs.{open_names}
use Rattle.inspect_commands.specs.Table.{events_table}
use Rattle.inspect_commands.proofs.AllLanes.{lane_begins, lane_cut, lane_told, lane_unmade, line_unmade}
use Rattle.inspect_commands.proofs.lanes.tell_lane.Goals as goal

pub returns-in_err-inspected-clause-tells : goal.returns-in_err-inspected-clause-tells
returns-in_err-inspected-clause-tells g c = λ all was below at.
    let p = err_from_is_err_and c.from_residual.result c.from_residual.ensures.1 in
    rw (p.1, p.2) (lane_unmade c.args.link.now c.args.lane all _ c.args.told.now c.args.outputs.now was _ at below (g.P.LanePieces.file_names c.args.lanes.now))

pub tell_all-requires-clause-telling : goal.tell_all-requires-clause-telling
tell_all-requires-clause-telling g c =
    let (all, was, below, at) = c.requires.told in
    let new = c.in_ok-inspected.ensures in (
      c.args.link.now,
      all,
      events_table at.events,
      was,
      lane_begins c.args.link.now c.args.lane all _ c.args.told.now c.args.outputs.now was _ at c.in_ok-inspected.inspected new.fresh.0 new.fresh.1 new.begins.0 new.begins.1,
    )

pub returns-in_err-tell_all-clause-tells : goal.returns-in_err-tell_all-clause-tells
returns-in_err-tell_all-clause-tells g c = λ all was below at.
    let new = c.in_ok-inspected.ensures in
    let r = c.from_residual-in_err-tell_all in
    let p = err_from_is_err_and r.result r.ensures.1 in
    rw (p.1, p.2) (lane_cut c.args.link.now c.args.lane all _ c.args.told.now c.args.outputs.now was _ at below (open_names c.args.outputs.now) (g.P.LanePieces.file_names c.args.lanes.now) c.in_err-tell_all.field-0.0 _
    ((c.in_err-tell_all.ensures {u = tt}).tells c.args.link.now all (events_table at.events) was
    (lane_begins c.args.link.now c.args.lane all _ c.args.told.now c.args.outputs.now was _ at c.in_ok-inspected.inspected new.fresh.0 new.fresh.1 new.begins.0 new.begins.1)))

pub returns-in_err-lane_line-clause-tells : goal.returns-in_err-lane_line-clause-tells
returns-in_err-lane_line-clause-tells g c = λ all was below at.
    let new = c.in_ok-inspected.ensures in
    let told = c.in_ok-tell_all.ensures {u = tt} in
    let r = c.from_residual-in_err-lane_line in
    let p = err_from_is_err_and r.result r.ensures.1 in
    rw (p.1, p.2) (line_unmade c.args.link.now c.args.lane all _ c.args.told.now c.args.outputs.now was _ at below _ c.tell_all.new.self c.tell_all.new.outputs _
    (told.tells c.args.link.now all (events_table at.events) was
    (lane_begins c.args.link.now c.args.lane all _ c.args.told.now c.args.outputs.now was _ at c.in_ok-inspected.inspected new.fresh.0 new.fresh.1 new.begins.0 new.begins.1))
    (g.P.LanePieces.file_names c.args.lanes.now) told.names)

pub returns-clause-tells : goal.returns-clause-tells
returns-clause-tells g c = λ all was below at.
    let new = c.in_ok-inspected.ensures in
    let told = c.in_ok-tell_all.ensures {u = tt} in
    lane_told c.args.link.now c.args.lane all _ c.args.told.now c.args.outputs.now was _ at below _ c.tell_all.new.self c.tell_all.new.outputs _
    (told.tells c.args.link.now all (events_table at.events) was
    (lane_begins c.args.link.now c.args.lane all _ c.args.told.now c.args.outputs.now was _ at c.in_ok-inspected.inspected new.fresh.0 new.fresh.1 new.begins.0 new.begins.1))
    _ c.report.result told.fits c.report.ensures (c.in_ok-lane_line.ensures {u = tt}).ok refl

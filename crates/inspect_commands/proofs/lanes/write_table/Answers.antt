use Rattle.std.proofs.Common.{◌∷◌, [], refl}
use Rattle.std.proofs.lemmas.Result.{err_from_is_err_and}
use Rattle.run_shell.specs.Outputs.{open_names}
use Rattle.inspect_commands.specs.Table.{events_table}
use Rattle.inspect_commands.proofs.AllLanes.{closed, unfinished}
use Rattle.inspect_commands.proofs.lanes.write_table.Goals as goal

pub finish-requires-clause-open : goal.finish-requires-clause-open
finish-requires-clause-open g c =
    let (all, was, count, o, are) = c.requires.open in
    let w = c.in_ok-text.ensures.fills all was count o are in
    (events_table w.events ∷ [], was, w.stands)

pub returns-in_err-finish-clause-writes : goal.returns-in_err-finish-clause-writes
returns-in_err-finish-clause-writes g c = λ all was count o are.
    let w = c.in_ok-text.ensures.fills all was count o are in
    let end = c.in_err-finish.ensures {u = tt} in
    let r = c.from_residual-in_err-finish in
    let p = err_from_is_err_and r.result r.ensures.1 in
    rw (p.1, p.2) (unfinished c.args.link.now all c.in_ok-text.text.items c.fill_table.new.outputs (open_names c.args.outputs.now) (g.P.LanePieces.file_names c.args.lanes.now) c.in_err-finish.field-0.0 was _ _ c.in_ok-text.ensures.names end.stops w (end.closed (events_table w.events ∷ []) was w.stands))

pub returns-clause-writes : goal.returns-clause-writes
returns-clause-writes g c = λ all was count o are.
    let w = c.in_ok-text.ensures.fills all was count o are in
    let end = c.in_ok-finish.ensures {u = tt} in
    (refl, closed c.args.link.now all c.in_ok-text.text.items c.fill_table.new.outputs (open_names c.args.outputs.now) was _ _ c.in_ok-text.ensures.names w (end.closed (events_table w.events ∷ []) was w.stands))

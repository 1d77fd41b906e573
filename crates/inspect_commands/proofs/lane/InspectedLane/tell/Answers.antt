use Rattle.std.proofs.Common.{◌≡◌, ◌++◌, ◌∷◌, [], refl, sym, ap, subst, List, length, arith}
use Rattle.std.proofs.lemmas.Result.{err_from_is_err_and}
use Rattle.run_shell.proofs.Fills.{open_part}
use Rattle.lk_base.specs.Checksum.{bits_of_bytes}
use Rattle.lane_events.specs.declared.types.LaneEvent.{LaneEvent}
use Rattle.lane_events.specs.Inspection.{Finds}
use Rattle.inspect_commands.specs.Table.{event_rows}
use Rattle.inspect_commands.proofs.Tellings.{all_found, none_found}
use Rattle.inspect_commands.proofs.lane.InspectedLane.tell.Goals as goal

pub returns-in_err-inspect-clause-tells : goal.returns-in_err-inspect-clause-tells
returns-in_err-inspect-clause-tells g c =
    let p = err_from_is_err_and c.from_residual.result c.from_residual.ensures.1 in
    let rows = event_rows c.args.lane [] in
    rw (p.1, p.2) (λ given was o. ([], tt, open_part c.args.outputs.now (given ∷ []) ((given ++ rows) ∷ []) was _ ((rows, refl), tt) o, none_found c.args.self.now.inspector c.args.piece.now))

pub returns-in_err-put_events-clause-tells : goal.returns-in_err-put_events-clause-tells
returns-in_err-put_events-clause-tells g c =
    let r = c.from_residual-in_err-put_events in
    let p = err_from_is_err_and r.result r.ensures.1 in
    let found : List LaneEvent = c.deref.result.now in
    let same : c.inspect.new.found.items ≡ found = sym c.deref.ensures.value in
    let finds = subst (λ (es : List LaneEvent). Finds c.args.self.now.inspector c.inspect.new.self (bits_of_bytes c.args.piece.now) [] es) same
    (subst (λ (es : List LaneEvent). Finds c.args.self.now.inspector c.inspect.new.self (bits_of_bytes c.args.piece.now) es c.inspect.new.found.items) c.new-found.ensures.items (c.in_ok-inspect.ensures {u = tt}).finds) in
    rw (p.1, p.2) (λ given was o. (found, (c.in_err-put_events.ensures {u = tt}).stops, (c.in_err-put_events.ensures {u = tt}).grown given was o, all_found c.args.self.now.inspector c.inspect.new.self c.args.piece.now found finds))

pub returns-clause-tells : goal.returns-clause-tells
returns-clause-tells g c = λ given was o.
    let found : List LaneEvent = c.deref.result.now in
    let same : c.inspect.new.found.items ≡ found = sym c.deref.ensures.value in
    let finds = subst (λ (es : List LaneEvent). Finds c.args.self.now.inspector c.inspect.new.self (bits_of_bytes c.args.piece.now) [] es) same
    (subst (λ (es : List LaneEvent). Finds c.args.self.now.inspector c.inspect.new.self (bits_of_bytes c.args.piece.now) es c.inspect.new.found.items) c.new-found.ensures.items (c.in_ok-inspect.ensures {u = tt}).finds) in
    (found, finds, (let a = c.inspect.new.found.ok.0 in let b = c.len.ensures in let d = ap (λ (es : List LaneEvent). length es) same in omega (arith, a, b, d)), (c.in_ok-put_events.ensures {u = tt}).grown given was o)

use Rattle.std.proofs.Common.{◌≡◌, ◌++◌, ◌∷◌, [], ◌∙◌, sym, subst, List, ℕ, get_or, length}
use Rattle.std.proofs.lemmas.Bool.{eqb-true}
use Rattle.std.proofs.lemmas.Result.{err_from_is_err_and}
use Rattle.run_shell.specs.Outputs.{IsOpen}
use Rattle.lane_receipts.specs.Taking.{IsPieceAt}
use Rattle.inspect_commands.specs.Table.{event_rows}
use Rattle.inspect_commands.proofs.Tellings.{as_before, piece_cut, piece_told, told_all, unread}
use Rattle.inspect_commands.proofs.lane.InspectedLane.tell_next.Goals as goal

pub returns-in_err-read_on-clause-tells : goal.returns-in_err-read_on-clause-tells
returns-in_err-read_on-clause-tells g c = λ s all given was at.
    let before = as_before c.args.outputs.now ((given ++ event_rows c.args.lane at.events) ∷ []) was _ (g.P.LanePieces.file_names c.args.lanes.now) at.stand c.requires.apart in
    let p = err_from_is_err_and c.from_residual.result c.from_residual.ensures.1 in
    rw (p.1, p.2) (unread s c.args.lane (get_or all c.args.lane []) given _ c.args.self.now c.args.outputs.now was _ at (g.P.LanePieces.file_names c.args.lanes.now) c.in_err-read_on.field-0.0 _ c.in_err-read_on.ensures.unchanged
    (λ are. c.in_err-read_on.ensures.reads was all are.0 before))

pub returns-then-is_empty-clause-tells : goal.returns-then-is_empty-clause-tells
returns-then-is_empty-clause-tells g c = λ s all given was at.
    let before = as_before c.args.outputs.now ((given ++ event_rows c.args.lane at.events) ∷ []) was _ (g.P.LanePieces.file_names c.args.lanes.now) at.stand c.requires.apart in
    let none : length c.piece-piece.result.now ≡ 0 = eqb-true (length c.piece-piece.result.now) 0 (sym c.is_empty.ensures ∙ c.if-is_empty.true) in
    told_all s c.args.lane (get_or all c.args.lane []) given _ c.args.self.now c.args.outputs.now was _ at _ _ c.in_ok-read_on.ensures.unchanged
    (λ are.
    let (later, is) = c.in_ok-read_on.ensures.reads was all are.0 before in
    let here = subst (λ (p : List ℕ). IsPieceAt c.args.self.now.offset p (get_or all c.args.lane [])) (sym c.piece-piece.ensures.held) is in
    ((later, are.1), here.stops none))

pub returns-in_err-tell-clause-tells : goal.returns-in_err-tell-clause-tells
returns-in_err-tell-clause-tells g c = λ s all given was at.
    let before = as_before c.args.outputs.now ((given ++ event_rows c.args.lane at.events) ∷ []) was _ (g.P.LanePieces.file_names c.args.lanes.now) at.stand c.requires.apart in
    let stand = subst (λ x. IsOpen c.args.outputs.now ((given ++ event_rows c.args.lane at.events) ∷ []) was x) (sym c.in_ok-read_on.ensures.unchanged) at.stand in
    let r = c.from_residual-in_err-tell in
    let p = err_from_is_err_and r.result r.ensures.1 in
    rw (p.1, p.2) (piece_cut s c.args.lane (get_or all c.args.lane []) given _ c.args.self.now c.args.outputs.now was _ at (g.P.LanePieces.are_lanes c.read_on.new.self was all) c.piece-piece.result.now
    (λ are. let (later, is) = c.in_ok-read_on.ensures.reads was all are.0 before in (later, subst (λ (p : List ℕ). IsPieceAt c.args.self.now.offset p (get_or all c.args.lane [])) (sym c.piece-piece.ensures.held) is))
    (Unit {0}) (g.P.LanePieces.file_names c.args.lanes.now) c.tell.new.self c.tell.new.outputs c.in_err-tell.field-0.0 _ ((c.in_err-tell.ensures {u = tt}).tells (given ++ event_rows c.args.lane at.events) was stand))

pub returns-clause-tells : goal.returns-clause-tells
returns-clause-tells g c = λ s all given was at.
    let before = as_before c.args.outputs.now ((given ++ event_rows c.args.lane at.events) ∷ []) was _ (g.P.LanePieces.file_names c.args.lanes.now) at.stand c.requires.apart in
    let stand = subst (λ x. IsOpen c.args.outputs.now ((given ++ event_rows c.args.lane at.events) ∷ []) was x) (sym c.in_ok-read_on.ensures.unchanged) at.stand in
    piece_told s c.args.lane (get_or all c.args.lane []) given _ c.args.self.now c.args.outputs.now was _ at _ c.piece-piece.result.now
    (λ are. let (later, is) = c.in_ok-read_on.ensures.reads was all are.0 before in ((later, are.1), subst (λ (p : List ℕ). IsPieceAt c.args.self.now.offset p (get_or all c.args.lane [])) (sym c.piece-piece.ensures.held) is))
    c.tell.new.self c.tell.new.outputs _ (c.in_ok-tell.ensures {u = tt}).moved ((c.in_ok-tell.ensures {u = tt}).tells (given ++ event_rows c.args.lane at.events) was stand)

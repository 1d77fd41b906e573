use Rattle.std.proofs.Common.{refl}
use Rattle.std.proofs.lemmas.Result.{err_from_is_err_and}
use Rattle.run_shell.proofs.Appends.{pieces_stop, pieces_done}
use Rattle.run_shell.proofs.appending.append_pieces.Goals as goal

pub returns-in_err-append_all-clause-pieces : goal.returns-in_err-append_all-clause-pieces
returns-in_err-append_all-clause-pieces g c =
    let p = err_from_is_err_and c.from_residual.result c.from_residual.ensures.1 in
    rw p.1 (pieces_stop c.args.name.now _ c.args.bytes.now _ c.in_err-append_all.field-0.0 _ _ refl c.in_err-append_all.ensures.added)

pub returns-clause-pieces : goal.returns-clause-pieces
returns-clause-pieces g c = pieces_done c.args.name.now c.args.bytes.now _ _ _ _ _ refl refl c.in_ok-append_all.ensures.added

use Rattle.std.proofs.Common.{refl, sym, [], Err, ap, drop, ◌∙◌}
use Rattle.std.proofs.lemmas.Result.{err_from_is_err_and}
use Rattle.run_stops.specs.declared.stop.Stop.TheVariants as stop
use Rattle.run_shell.proofs.Appends.{extends_none, of_equal, pieces_as}
use Rattle.run_shell.proofs.appending.shorten_rest.Goals as goal

pub returns-then-len-lt-PIECE-clause-shortened : goal.returns-then-len-lt-PIECE-clause-shortened
returns-then-len-lt-PIECE-clause-shortened g c = ([], refl, extends_none c.args.name.now _ c.requires.there)

pub append_pieces-requires-clause-count : goal.append_pieces-requires-clause-count
append_pieces-requires-clause-count g c = c.requires.count

pub append_pieces-requires-clause-there : goal.append_pieces-requires-clause-there
append_pieces-requires-clause-there g c = c.requires.there

pub returns-in_err-whole-clause-cause : goal.returns-in_err-whole-clause-cause
returns-in_err-whole-clause-cause g c =
    let p = err_from_is_err_and c.from_residual.result c.from_residual.ensures.1 in
    rw (p.1, p.2) c.in_err-whole.ensures.cause

pub returns-in_err-whole-clause-stops : goal.returns-in_err-whole-clause-stops
returns-in_err-whole-clause-stops g c =
    let p = err_from_is_err_and c.from_residual.result c.from_residual.ensures.1 in
    rw (p.1, p.2) c.in_err-whole.ensures.stops

pub returns-in_err-whole-clause-shortened : goal.returns-in_err-whole-clause-shortened
returns-in_err-whole-clause-shortened g c =
    let p = err_from_is_err_and c.from_residual.result c.from_residual.ensures.1 in
    rw p.1 (of_equal {T = Unit {0}} c.args.name.now _ _ (Err stop.OutOfMemory) (λ _. []) _ _ c.deref.ensures.value c.in_err-whole.ensures.pieces)

pub returns-clause-cause : goal.returns-clause-cause
returns-clause-cause g c = c.in_ok-whole.ensures.cause

pub returns-clause-stops : goal.returns-clause-stops
returns-clause-stops g c = tt

pub returns-clause-shortened : goal.returns-clause-shortened
returns-clause-shortened g c =
    pieces_as c.args.name.now _ _ _ _ _ _ c.deref.ensures.value (ap (drop c.in_ok-whole.whole) c.deref.ensures.value ∙ sym c.drop_front.ensures) c.in_ok-whole.ensures.pieces

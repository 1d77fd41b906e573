use Rattle.std.proofs.Common.{List, ℕ, subst, Contains, Err}
use Rattle.std.proofs.lemmas.Result.{err_from_is_err_and}
use Rattle.lk_outside.specs.Files.{Told}
use Rattle.run_stops.specs.Stops.{StoreStops}
use Rattle.run_shell.specs.Outcome.{HoldsPart}
use Rattle.run_shell.specs.Outputs.{outs, open_names}
use Rattle.run_shell.proofs.Rests.{more_none}
use Rattle.run_shell.proofs.outputs.append_pieces_of.Goals as goal

pub put_at-requires-clause-open : goal.put_at-requires-clause-open
put_at-requires-clause-open g c = let (given, was, o) = c.requires.open in (given, was, c.loop-place.invariant.open_so_far given was o)

pub returns-in_err-put_at-clause-stops : goal.returns-in_err-put_at-clause-stops
returns-in_err-put_at-clause-stops g c =
    let p = err_from_is_err_and c.from_residual.result c.from_residual.ensures.1 in
    rw (p.1, p.2) (subst (λ ns. StoreStops {T = Unit {0}} (Contains ns) (Err c.in_err-put_at.field-0.0)) c.loop-place.invariant.names (c.in_err-put_at.ensures {u = tt}).stops)

pub returns-in_err-put_at-clause-grown : goal.returns-in_err-put_at-clause-grown
returns-in_err-put_at-clause-grown g c =
    let p = err_from_is_err_and c.from_residual.result c.from_residual.ensures.1 in
    rw p.1 (λ given was o.
    subst (λ (ns : List (List ℕ)). Told was (g.S.Store.files c.put_at.new.store) (HoldsPart (outs ns given))) c.loop-place.invariant.names
    (subst (λ (gs : List (List ℕ)). Told was (g.S.Store.files c.put_at.new.store) (HoldsPart (outs (open_names c.loop-place.files.items) gs))) (more_none given c.loop-place.place)
    ((c.in_err-put_at.ensures {u = tt}).grown given was (c.loop-place.invariant.open_so_far given was o))))

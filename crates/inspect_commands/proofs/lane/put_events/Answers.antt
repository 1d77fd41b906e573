use Rattle.std.proofs.Common.{◌++◌, ◌∷◌, [], ◌∙◌, refl, sym, ap, subst, List, ℕ, length, eqb-true}
use Rattle.std.proofs.lemmas.List.{nil_from_length}
use Rattle.std.proofs.lemmas.Result.{err_from_is_err_and}
use Rattle.run_shell.proofs.Fills.{open_part}
use Rattle.run_shell.specs.Outputs.{Grown, IsOpen}
use Rattle.inspect_commands.specs.Table.{event_rows}
use Rattle.inspect_commands.proofs.Tables.{given_none}
use Rattle.inspect_commands.proofs.lane.put_events.Goals as goal

-- no events
pub returns-then-is_empty-clause-grown : goal.returns-then-is_empty-clause-grown
returns-then-is_empty-clause-grown g c = λ given was o.
    let none = nil_from_length c.args.events.now (eqb-true (length c.args.events.now) 0 (sym c.is_empty.ensures ∙ c.if-is_empty.true)) in
    subst (λ (b : List ℕ). IsOpen c.args.outputs.now (b ∷ []) was (g.S.Store.files c.args.store.now)) (given_none given c.args.lane ∙ ap (λ es. given ++ event_rows c.args.lane es) (sym none)) o

pub put-requires-clause-open : goal.put-requires-clause-open
put-requires-clause-open g c = let (given, was, o) = c.requires.open in (given ∷ [], was, o)

pub returns-in_err-rows-clause-grown : goal.returns-in_err-rows-clause-grown
returns-in_err-rows-clause-grown g c =
    let p = err_from_is_err_and c.from_residual.result c.from_residual.ensures.1 in
    let rows = event_rows c.args.lane c.args.events.now in
    rw p.1 (λ given was o. open_part c.args.outputs.now (given ∷ []) ((given ++ rows) ∷ []) was _ ((rows, refl), tt) o)

pub returns-clause-grown : goal.returns-clause-grown
returns-clause-grown g c = λ given was o.
    let bytes = c.deref.ensures.value ∙ c.in_ok-rows.ensures in
    subst (λ (b : List ℕ). Grown c.args.outputs.now c.put.new.self ((given ++ b) ∷ []) c.put.result was (g.S.Store.files c.put.new.store)) bytes (c.put.ensures.grown (given ∷ []) was o)

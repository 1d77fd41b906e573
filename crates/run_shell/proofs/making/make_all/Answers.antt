use Rattle.std.proofs.Common.{◌∙◌, List, ℕ, sym, subst, map, string_bytes}
use Rattle.std.proofs.lemmas.Result.{err_from_is_err_and}
use Rattle.lk_outside.specs.Files.{Told}
use Rattle.run_stops.specs.declared.stop.Stop.TheVariants as stop
use Rattle.run_shell.specs.declared.finished.Finished.{Finished}
use Rattle.run_shell.specs.Open.{Open}
use Rattle.run_shell.specs.Outcome.{HoldsPart}
use Rattle.run_shell.specs.Outputs.{Differ, outs, blank}
use Rattle.run_shell.proofs.Writing.{none_writes}
use Rattle.run_shell.proofs.MakersWork.{not_made, not_worked, all_made}
use Rattle.run_shell.proofs.making.make_all.Goals as goal

pub returns-in_err-names-clause-writes : goal.returns-in_err-names-clause-writes
returns-in_err-names-clause-writes g c =
    let p = err_from_is_err_and c.from_residual.result c.from_residual.ensures.1 in
    rw (p.1, p.2) (none_writes (g.M.Maker.IsMade (g.M.Maker.inputs c.args.maker.now)) (g.M.Maker.named (g.M.Maker.inputs c.args.maker.now)) stop.OutOfMemory _ tt)

pub returns-in_err-outputs-clause-writes : goal.returns-in_err-outputs-clause-writes
returns-in_err-outputs-clause-writes g c =
    let r = c.from_residual-in_err-outputs in
    let p = err_from_is_err_and r.result r.ensures.1 in
    let i = g.M.Maker.inputs c.args.maker.now in
    rw (p.1, p.2) (not_made (g.M.Maker.IsMade i) (g.M.Maker.named i) (List Open) _ c.in_err-outputs.field-0.0 _ _ c.in_ok-names.ensures.names
    (λ out is. c.lawful.ensures.begins c.args.maker.now _ out c.requires.fresh is) c.in_err-outputs.ensures.stops c.in_err-outputs.ensures.created)

pub take_steps-requires-clause-differ : goal.take_steps-requires-clause-differ
take_steps-requires-clause-differ g c = subst Differ (sym c.in_ok-outputs.ensures.names) c.in_ok-names.ensures.differ

pub take_steps-requires-clause-opens : goal.take_steps-requires-clause-opens
take_steps-requires-clause-opens g c = c.in_ok-outputs.ensures.names ∙ c.in_ok-names.ensures.names

pub take_steps-requires-clause-stands : goal.take_steps-requires-clause-stands
take_steps-requires-clause-stands g c =
    (blank (map string_bytes c.in_ok-names.names.items), _, subst (λ (ns : List (List ℕ)). g.M.Maker.gave c.args.maker.now (blank ns)) (sym c.in_ok-names.ensures.names) c.requires.fresh, c.in_ok-outputs.ensures.created)

pub returns-in_err-finished-clause-writes : goal.returns-in_err-finished-clause-writes
returns-in_err-finished-clause-writes g c =
    let r = c.from_residual-in_err-finished in
    let p = err_from_is_err_and r.result r.ensures.1 in
    let i = g.M.Maker.inputs c.args.maker.now in
    let fresh = subst (λ (ns : List (List ℕ)). g.M.Maker.gave c.args.maker.now (blank ns)) (sym c.in_ok-names.ensures.names) c.requires.fresh in
    let (given, begin, stand) = c.in_err-finished.ensures.works _ _ fresh c.in_ok-outputs.ensures.created in
    rw (p.1, p.2) (not_worked (g.M.Maker.IsMade i) (g.M.Maker.named i) Finished _ c.in_err-finished.field-0.0 given _ _ (c.in_ok-outputs.ensures.names ∙ c.in_ok-names.ensures.names) begin c.in_err-finished.ensures.stops stand)

pub finish-requires-clause-differ : goal.finish-requires-clause-differ
finish-requires-clause-differ g c = subst Differ (sym (c.in_ok-finished.ensures.opens ∙ c.in_ok-outputs.ensures.names)) c.in_ok-names.ensures.differ

pub finish-requires-clause-open : goal.finish-requires-clause-open
finish-requires-clause-open g c =
    let fresh = subst (λ (ns : List (List ℕ)). g.M.Maker.gave c.args.maker.now (blank ns)) (sym c.in_ok-names.ensures.names) c.requires.fresh in
    let (given, begin, made, stand) = c.in_ok-finished.ensures.works _ _ fresh c.in_ok-outputs.ensures.created in
    (given, _, stand)

pub returns-in_err-finish-clause-writes : goal.returns-in_err-finish-clause-writes
returns-in_err-finish-clause-writes g c =
    let r = c.from_residual-in_err-finish in
    let p = err_from_is_err_and r.result r.ensures.1 in
    let i = g.M.Maker.inputs c.args.maker.now in
    let is = c.in_ok-finished.ensures.opens ∙ c.in_ok-outputs.ensures.names ∙ c.in_ok-names.ensures.names in
    let fresh = subst (λ (ns : List (List ℕ)). g.M.Maker.gave c.args.maker.now (blank ns)) (sym c.in_ok-names.ensures.names) c.requires.fresh in
    let (given, begin, made, stand) = c.in_ok-finished.ensures.works _ _ fresh c.in_ok-outputs.ensures.created in
    rw (p.1, p.2) (not_worked (g.M.Maker.IsMade i) (g.M.Maker.named i) (Unit {0}) _ c.in_err-finish.field-0.0 given _ _ is begin c.in_err-finish.ensures.stops
    (subst (λ (ns : List (List ℕ)). Told (g.S.Store.files c.args.store.now) (g.S.Store.files c.finish.new.store) (HoldsPart (outs ns given))) is (c.in_err-finish.ensures.closed given _ stand)))

pub returns-clause-writes : goal.returns-clause-writes
returns-clause-writes g c =
    let i = g.M.Maker.inputs c.args.maker.now in
    let is = c.in_ok-finished.ensures.opens ∙ c.in_ok-outputs.ensures.names ∙ c.in_ok-names.ensures.names in
    let fresh = subst (λ (ns : List (List ℕ)). g.M.Maker.gave c.args.maker.now (blank ns)) (sym c.in_ok-names.ensures.names) c.requires.fresh in
    let (given, begin, made, stand) = c.in_ok-finished.ensures.works _ _ fresh c.in_ok-outputs.ensures.created in
    all_made (g.M.Maker.IsMade i) (g.M.Maker.named i) _ _ given _ _ is made (c.in_ok-finish.ensures.closed given _ stand)

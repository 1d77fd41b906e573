use Rattle.std.proofs.Common.{ℕ, List, ◌≡◌, ◌∙◌, sym, ap, subst, IfSome, IsSome}
use Rattle.lk_outside.specs.Files.{file}
use Rattle.run_shell.specs.Open.{Open}
use Rattle.run_stops.specs.Stops.{StoreStops}
use Rattle.run_shell.proofs.outputs.OpenFile.flush.Goals as goal

pub append_all-requires-clause-count : goal.append_all-requires-clause-count
append_all-requires-clause-count g c = c.requires.count

pub append_all-requires-clause-there : goal.append_all-requires-clause-there
append_all-requires-clause-there g c =
    let named : c.as_str.result.now ≡ c.args.self.now.name = c.as_str.ensures.value ∙ ap (λ (o : Open). o.name) c.self.view_is in
    subst (λ (n : List ℕ). IfSome (g.S.Store.files c.args.store.now) (λ files. IsSome (file files n))) (sym named) c.requires.there

pub returns-clause-cause : goal.returns-clause-cause
returns-clause-cause g c = c.append_all.ensures.cause

pub returns-clause-stops : goal.returns-clause-stops
returns-clause-stops g c =
    let named : c.as_str.result.now ≡ c.args.self.now.name = c.as_str.ensures.value ∙ ap (λ (o : Open). o.name) c.self.view_is in
    subst (λ (n : List ℕ). StoreStops (λ m. m ≡ n) c.append_all.result) named c.append_all.ensures.stops

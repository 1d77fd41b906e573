-- Nothing is counted, and no counter is above one.
use Rattle.std.proofs.Common.{rules, ◌≡◌, refl, sym, ap, subst, ◌∙◌, ℕ, replicate, length, arith}
use Rattle.std.specs.Vec.{vec_len}
use Rattle.phase_finder.specs.Phases.{Phases, Watches, above_one}
use Rattle.phase_finder.proofs.AboveOne.{above_zeros}
use Rattle.phase_finder.proofs.Steps.{watches_passed}
use Rattle.phase_finder.proofs.finder.Finder.pass_misses.Goals as goal

pub invariant_of-self : goal.invariant_of-self
invariant_of-self c =
    let i = c.self.invariant in
    let t : c.self.inside.taken ≡ c.args.self.now.taken = ap (λ (x : Phases). x.taken) c.self.view_is in
    let few = c.requires.few in
    let e : c.fill.new.self.items ≡ replicate (vec_len c.self.inside.counts) 0 = c.fill.ensures.items (λ y h. h) in
    let long : length c.fill.new.self.items ≡ c.self.inside.period = search rules in
    (i.0, i.1, i.2, i.3, i.4, omega (arith, t, few), refl, long, sym (ap above_one e ∙ above_zeros (vec_len c.self.inside.counts)))

pub returns-clause-run : goal.returns-clause-run
returns-clause-run c period need first hits k =
    let f = c.self.inside in
    let i = c.self.invariant in
    let p : f.period ≡ c.args.self.now.period = ap (λ (x : Phases). x.period) c.self.view_is in
    let whole = c.requires.whole in
    let long : vec_len f.counts ≡ f.period = search rules in
    watches_passed (record { period = f.period; need = f.need; first = f.first; taken = f.taken; counts = f.counts.items }) _ period need first c.args.count hits
    (subst (λ (x : Phases). Watches x period need first hits) (sym c.self.view_is) k)
    i.0 (omega (arith, p, whole)) refl refl refl refl (c.fill.ensures.items (λ y h. h) ∙ ap (λ (n : ℕ). replicate n 0) long)

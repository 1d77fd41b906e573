-- No counter is above one, exactly where the highest is not.
use Rattle.std.proofs.Common.{◌≡◌, ◌≤◌, sym, subst, ◌∙◌}
use Rattle.std.proofs.lemmas.Bool.{eqb-true, eq-eqb, false≢true}
use Rattle.phase_finder.specs.Phases.{Phases, highest}
use Rattle.phase_finder.proofs.AboveOne.{low_highest, none_above}
use Rattle.phase_finder.proofs.finder.Finder.has_no_two.Goals as goal

pub returns-clause-none : goal.returns-clause-none
returns-clause-none c h =
    let f = c.self.inside in
    let none = sym c.self.invariant.8 ∙ eqb-true f.twos 0 h in
    subst (λ (x : Phases). highest x.counts ≤ 1) c.self.view_is (none_above f.counts.items none)

pub returns-clause-some : goal.returns-clause-some
returns-clause-some c h low =
    let f = c.self.inside in
    let e : f.twos ≡ 0 = c.self.invariant.8 ∙ low_highest f.counts.items (subst (λ (x : Phases). highest x.counts ≤ 1) (sym c.self.view_is) low) in
    absurd (false≢true (sym h ∙ eq-eqb f.twos 0 e))

-- No counter is above one.
use Rattle.std.proofs.Common.{rules, ◌≡◌, ◌%◌, sym, ap, ◌∙◌, replicate, length, arith}
use Rattle.std.specs.Vec.{vec_len}
use Rattle.phase_finder.specs.Phases.{above_one}
use Rattle.phase_finder.proofs.AboveOne.{above_zeros}
use Rattle.phase_finder.proofs.finder.Finder.reset.Goals as goal

pub invariant_of-self : goal.invariant_of-self
invariant_of-self c =
    let i = c.self.invariant in
    let begins : 0 ≡ 0 % c.self.inside.period = search rules in
    let e : c.fill.new.self.items ≡ replicate (vec_len c.self.inside.counts) 0 = c.fill.ensures.items (λ y h. h) in
    let long : length c.fill.new.self.items ≡ c.self.inside.period = search rules in
    (i.0, i.1, i.2, i.3, c.requires, omega arith, begins, long, sym (ap above_one e ∙ above_zeros (vec_len c.self.inside.counts)))

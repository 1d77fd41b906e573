-- No counter is above one.
use Rattle.std.proofs.Common.{rules, ◌≡◌, ◌%◌, sym, ap, ◌∙◌, length, replicate, arith}
use Rattle.std.proofs.lemmas.List.{length-replicate}
use Rattle.phase_finder.specs.Phases.{above_one}
use Rattle.phase_finder.proofs.AboveOne.{above_zeros}
use Rattle.phase_finder.proofs.finder.Finder.new.Goals as goal

pub invariant_of-result : goal.invariant_of-result
invariant_of-result c =
    let r = c.requires in
    let begins : 0 ≡ 0 % c.args.period = search rules in
    let e : c.in_ok-counts.counts.items ≡ replicate c.args.period 0 = c.in_ok-counts.ensures.items_if_clones_equal (λ y h. h) in
    (r.period_low, r.period_high, r.need_low, r.need_high, omega arith, omega arith, begins, ap length e ∙ length-replicate c.args.period 0, sym (ap above_one e ∙ above_zeros c.args.period))

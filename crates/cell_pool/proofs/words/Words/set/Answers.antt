use Rattle.std.proofs.Common.{◌≡◌, ◌∙◌, ◌+◌, ◌-◌, ◌*◌, ◌≤◌, ℕ, List, length, set, ap, arith}
use Rattle.cell_pool.proofs.Late.{late_filled, late_long, late_set, late_fill_long}
use Rattle.cell_pool.proofs.words.Words.set.Goals as goal

pub returns : goal.returns
returns c =
    let xs : List ℕ = c.self.inside.words.items in
    let ys : List ℕ = c.fill.new.words.items in
    let all : ℕ = 8 * c.self.inside.cells in
    let at : ℕ = 8 * c.args.cell + c.args.at in
    let inside : 8 * c.args.cell + 8 ≤ all = omega (arith, late_long xs all c.self.invariant.0, ap (length {A = ℕ}) c.self.view_is, c.requires.cell) in
    let filled : length ys ≡ length xs + (8 * c.args.cell + 8 - length xs) = late_fill_long xs ys (8 * c.args.cell + 8) c.fill.ensures.filled in
    late_set ys all at c.args.word (omega (arith, filled, c.requires.at))
    ∙ ap (λ (v : List ℕ). set v at c.args.word) (late_filled xs ys (8 * c.args.cell + 8) all c.fill.ensures.filled inside c.self.invariant.0 ∙ c.self.view_is)

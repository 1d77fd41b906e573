use Rattle.std.proofs.Common.{◌≡◌, ◌∙◌, ◌+◌, ◌-◌, ◌*◌, ◌≤◌, ℕ, List, length, take, ap, arith}
use Rattle.std.proofs.lemmas.List.{length-take-le}
use Rattle.cell_pool.specs.Cells.{with_run}
use Rattle.cell_pool.proofs.Filled.{run_long}
use Rattle.cell_pool.proofs.Late.{late, late_filled, late_long, late_run, late_fill_long}
use Rattle.cell_pool.proofs.words.Words.put.Goals as goal

pub invariant_of-self : goal.invariant_of-self
invariant_of-self c =
    let xs : List ℕ = c.self.inside.words.items in
    let ys : List ℕ = c.fill.new.words.items in
    let zs : List ℕ = take c.put_words.result c.args.words.now in
    let inside : 8 * c.args.cell + 8 ≤ 8 * c.self.inside.cells = omega (arith, late_long xs (8 * c.self.inside.cells) c.self.invariant.0, ap (length {A = ℕ}) c.self.view_is, c.requires.cell) in
    let long : length c.put_words.new.cells.items ≡ length ys = ap (length {A = ℕ}) c.put_words.ensures.put ∙ run_long ys (8 * c.args.cell + c.args.from) zs in
    let filled : length ys ≡ length xs + (8 * c.args.cell + 8 - length xs) = late_fill_long xs ys (8 * c.args.cell + 8) c.fill.ensures.filled in
    (omega (arith, long, filled, inside, c.self.invariant.0), omega (arith, c.self.invariant.1, c.fill.ensures.room, c.put_words.ensures.room), omega (arith, long, filled, c.self.invariant.2))

pub returns-clause-put : goal.returns-clause-put
returns-clause-put c =
    let xs : List ℕ = c.self.inside.words.items in
    let ys : List ℕ = c.fill.new.words.items in
    let zs : List ℕ = take c.put_words.result c.args.words.now in
    let all : ℕ = 8 * c.self.inside.cells in
    let at : ℕ = 8 * c.args.cell + c.args.from in
    let inside : 8 * c.args.cell + 8 ≤ all = omega (arith, late_long xs all c.self.invariant.0, ap (length {A = ℕ}) c.self.view_is, c.requires.cell) in
    let filled : length ys ≡ length xs + (8 * c.args.cell + 8 - length xs) = late_fill_long xs ys (8 * c.args.cell + 8) c.fill.ensures.filled in
    let few : length zs ≤ 8 - c.args.from = omega (arith, length-take-le c.put_words.result c.args.words.now (omega (arith, c.put_words.ensures.count)), c.put_words.ensures.count) in
    ap (λ (v : List ℕ). late v all) c.put_words.ensures.put
    ∙ late_run ys all at zs (omega (arith, filled, few, c.requires.from))
    ∙ ap (λ (v : List ℕ). with_run v at zs) (late_filled xs ys (8 * c.args.cell + 8) all c.fill.ensures.filled inside c.self.invariant.0 ∙ c.self.view_is)

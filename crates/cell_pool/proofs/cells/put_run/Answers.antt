use Rattle.std.proofs.Common.{◌≡◌, ◌++◌, ◌+◌, ◌-◌, ◌∙◌, ℕ, List, ap, length, take, drop, arith}
use Rattle.std.proofs.lemmas.List.{drop-drop}
use borrow.Rule.Slice.PartMut.{put_mid}
use Rattle.cell_pool.proofs.Filled.{run_at_once}
use Rattle.cell_pool.proofs.cells.put_run.Goals as goal

pub returns : goal.returns
returns c =
    let n = length c.args.words.now in
    let at = c.args.at in
    let cells = c.args.cells.now in
    let e : at + n - at ≡ n = omega arith in
    ap (λ (k : ℕ). put_mid at k cells c.copy_from_slice.new.self) e
    ∙ ap (λ (ws : List ℕ). take at cells ++ (ws ++ drop n (drop at cells))) c.copy_from_slice.ensures.after
    ∙ ap (λ (ws : List ℕ). take at cells ++ (c.args.words.now ++ ws)) (drop-drop n at cells)
    ∙ run_at_once cells at c.args.words.now c.requires

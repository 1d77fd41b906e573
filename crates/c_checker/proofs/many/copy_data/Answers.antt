-- The numbers of a run of Data words.
use Rattle.std.proofs.Common.{◌≡◌, ◌+◌, ◌∙◌, ℕ, slice_index_or, refl, arith}
use Rattle.std.proofs.lemmas.List.{length-set}
use Rattle.c_checker.specs.declared.many.CWord.{CWord}
use Rattle.c_checker.proofs.Taken.{run_more}
use Rattle.c_checker.proofs.many.copy_data.Goals as goal

pub loop-count-init : goal.loop-count-init
loop-count-init c = record { same = refl; words = refl }

pub loop-count-preserved : goal.loop-count-preserved
loop-count-preserved c =
    let i : ℕ = c.loop-count.count in
    let none : CWord = record { number = 0; kind = 0; reserved = 0 } in
    let w : CWord = slice_index_or c.args.words.now (c.args.at + i) none in
    let t = c.loop-count-test.true in
    let m = c.min-most.ensures in
    let s = c.loop-count.invariant.same in
    let f = c.requires in
    let kind : w.kind ≡ 1 = omega (arith, c.if-word-ne-WORD_DATA.false) in
    record {
      same = length-set c.loop-count.room i w.number ∙ s;
      words = run_more c.args.words.now c.args.at i c.loop-count.room none w (omega (arith, t, m, f)) (omega (arith, t, m, s)) refl kind c.loop-count.invariant.words;
    }

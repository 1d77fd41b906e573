-- The first of the words that wait.
use Rattle.std.proofs.Common.{◌++◌, ◌≤◌, sym, ap, subst, List, length, take, arith}
use Rattle.std.proofs.lemmas.List.{length-drop}
use Rattle.lk_base.specs.declared.word.Aligned.{Aligned}
use Rattle.rx_front.specs.States.{State}
use Rattle.rx_front.specs.Standing.{Stands, items_left}
use Rattle.rx_front.proofs.Known.{with_words, words_taken}
use Rattle.rx_front.proofs.Seen.{seen}
use Rattle.rx_front.proofs.front.Front.pass.Goals as goal

pub returns-clause-stands : goal.returns-clause-stands
returns-clause-stands c = λ s fed items t st.
    let i = c.self.inside in
    let n = c.args.count in
    subst (λ (v : State). Stands (with_words i.deskew c.pass.new.self (seen i)) s fed (items ++ take n v.waiting) t) c.self.view_is
    (subst (λ (after : List Aligned). Stands (with_words i.deskew after (seen i)) s fed (items ++ take n i.block) t) (sym c.pass.ensures)
    (words_taken (seen i) n s fed items t (subst (λ (v : State). Stands v s fed items t) (sym c.self.view_is) st)))

pub returns-clause-fewer : goal.returns-clause-fewer
returns-clause-fewer c =
    let l = ap length c.pass.ensures in
    let d = length-drop c.args.count c.self.inside.block in
    let h = subst (λ (v : State). c.args.count ≤ length v.waiting) (sym c.self.view_is) c.requires in
    let e = ap items_left c.self.view_is in
    omega (arith, l, d, h, e)

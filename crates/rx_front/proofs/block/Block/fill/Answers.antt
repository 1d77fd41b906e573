-- All words of a block wait.
use Rattle.std.proofs.Common.{ℕ, sym, subst, ap, ◌∙◌, ◌%◌, ◌++◌, List, length, arith}
use Rattle.lk_base.specs.Link.{Settings}
use Rattle.lk_base.specs.declared.word.Aligned.{Aligned}
use Rattle.deskew.proofs.Rows.{words_count}
use Rattle.deskew.specs.Stands.{StandsAhead}
use Rattle.rx_front.proofs.Waiting.{all_wait}
use Rattle.rx_front.proofs.block.Block.fill.Goals as goal

pub returns-clause-ahead : goal.returns-clause-ahead
returns-clause-ahead c = λ s ticks given st.
    let at = c.next_block-self-inside.result in
    let words = c.next_block-self-inside.new.block.words in
    subst (λ (items : List Aligned). StandsAhead c.next_block-self-inside.new.self s ticks (given ++ items)) (sym (all_wait at.group at.index words))
    (c.next_block-self-inside.ensures.ahead s ticks given st)

pub returns-clause-fewer : goal.returns-clause-fewer
returns-clause-fewer c =
    let at = c.next_block-self-inside.result in
    let words = c.next_block-self-inside.new.block.words in
    let e = ap length (all_wait at.group at.index words) in
    let l = words_count at.group at.index words in
    let f = c.next_block-self-inside.ensures.fewer in
    omega (arith, e, l, f)

pub returns-clause-whole : goal.returns-clause-whole
returns-clause-whole c =
    let at = c.next_block-self-inside.result in
    let words = c.next_block-self-inside.new.block.words in
    let e = ap length (all_wait at.group at.index words) ∙ words_count at.group at.index words in
    ap (λ (n : ℕ). n % c.next_block-self-inside.new.self.settings.lanes) e
    ∙ ap (λ (s : Settings). length words % s.lanes) c.next_block-self-inside.ensures.settings ∙ c.next_block-self-inside.ensures.rows

pub returns-clause-most : goal.returns-clause-most
returns-clause-most c = λ row.
    let at = c.next_block-self-inside.result in
    let words = c.next_block-self-inside.new.block.words in
    let e = ap length (all_wait at.group at.index words) ∙ words_count at.group at.index words in
    let lanes = ap (λ (s : Settings). s.lanes) c.next_block-self-inside.ensures.settings in
    let room = c.self.invariant.3 in
    let same = c.next_block-self-inside.ensures.room in
    let most = c.next_block-self-inside.ensures.most row in
    omega (arith, e, lanes, room, same, most)

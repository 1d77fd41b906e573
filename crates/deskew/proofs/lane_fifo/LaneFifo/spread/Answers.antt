-- Both parts of what is kept.
use Rattle.std.proofs.Common.{ℕ, ap, ◌∙◌, ◌+◌, ◌*◌, ◌<◌, List, arith, length, subst, sym}
use Rattle.lk_base.specs.declared.word.RxWord.{RxWord}
use Rattle.deskew.specs.States.{LaneState}
use Rattle.word_list.specs.Received.{spread}
use Rattle.deskew.proofs.Spread.{length_column, length_spread, parts_are, spread_append, two_fit}
use Rattle.deskew.proofs.lane_fifo.LaneFifo.spread.Goals as goal

pub spread-next-requires-clause-within : goal.spread-next-requires-clause-within
spread-next-requires-clause-within c =
    let n = c.len.ensures.len in
    let t = c.if-back-len.true in
    let here = subst (λ (l : LaneState). c.back-back.result < length l.words) c.self.view_is (omega (arith, n, t)) in
    let is = parts_are c.args.after c.args.rows c.back-back.result c.args.self.now c.kept.result.0.now c.kept.result.1.now c.back-back.ensures.value here c.if-rows-back.true c.kept.ensures in
    (two_fit c.args.from c.args.step c.args.rows (length c.args.block.now.words) c.kept.result.0.now c.kept.result.1.now (ap length is ∙ length_column c.args.after c.args.rows c.args.self.now)
    c.requires.within).0

pub spread-requires-clause-within : goal.spread-requires-clause-within
spread-requires-clause-within c =
    let n = c.len.ensures.len in
    let t = c.if-back-len.true in
    let here = subst (λ (l : LaneState). c.back-back.result < length l.words) c.self.view_is (omega (arith, n, t)) in
    let is = parts_are c.args.after c.args.rows c.back-back.result c.args.self.now c.kept.result.0.now c.kept.result.1.now c.back-back.ensures.value here c.if-rows-back.true c.kept.ensures in
    let fit = (two_fit c.args.from c.args.step c.args.rows (length c.args.block.now.words) c.kept.result.0.now c.kept.result.1.now (ap length is ∙ length_column c.args.after c.args.rows c.args.self.now)
    c.requires.within).1 in
    let place = c.spread-next.ensures.place in
    let long = ap length c.spread-next.ensures.words ∙ length_spread c.args.step c.args.from c.kept.result.0.now c.args.block.now.words in
    omega (arith, fit, place, long)

pub returns-then-rows-back-clause-words : goal.returns-then-rows-back-clause-words
returns-then-rows-back-clause-words c =
    let n = c.len.ensures.len in
    let t = c.if-back-len.true in
    let here = subst (λ (l : LaneState). c.back-back.result < length l.words) c.self.view_is (omega (arith, n, t)) in
    let front = c.kept.result.0.now in
    let rest = c.kept.result.1.now in
    let step = c.args.step in
    let is = parts_are c.args.after c.args.rows c.back-back.result c.args.self.now front rest c.back-back.ensures.value here c.if-rows-back.true c.kept.ensures in
    c.spread.ensures.words
    ∙ ap (λ (at : ℕ). spread step at rest c.spread-next.new.self.words) c.spread-next.ensures.place
    ∙ ap (λ (ws : List RxWord). spread step (c.args.from + length front * step) rest ws) c.spread-next.ensures.words
    ∙ sym (spread_append step c.args.from front rest c.args.block.now.words)
    ∙ ap (λ (ws : List RxWord). spread step c.args.from ws c.args.block.now.words) is

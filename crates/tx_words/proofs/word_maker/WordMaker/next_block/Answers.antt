-- The first words are made, and the next few.
use Rattle.std.proofs.Common.{◌+◌, ◌-◌, List, length, drop, refl, subst, arith, length-drop}
use Rattle.std.proofs.lemmas.List.{length-take}
use Rattle.lk_base.specs.declared.word.Word.{Word}
use Rattle.stream_model.specs.BurstStream.{IsBurstStream}
use Rattle.tx_words.specs.Making.{GaveWords}
use Rattle.tx_words.proofs.BlockWords.{put_more, put_none, rest_put}
use Rattle.tx_words.proofs.word_maker.WordMaker.next_block.Goals as goal

pub next_few-more-requires-clause-made : goal.next_few-more-requires-clause-made
next_few-more-requires-clause-made c = let (source, words, k) = c.requires in (source, _, c.loop-count.invariant.made source words k)

pub returns-then-more-eq0-clause-given : goal.returns-then-more-eq0-clause-given
returns-then-more-eq0-clause-given c source words k =
    let none = c.if-more-eq0.true in
    let within = c.loop-count.invariant.within in
    let long = c.loop-count.auto.block in
    subst (λ (w : List Word). GaveWords c.next_few-more.new.self source w)
    (put_more words c.loop-count.block c.next_few-more.new.block _ c.loop-count.count c.next_few-more.result c.loop-count.count (omega (arith, within, long)) (omega (arith, none)) (omega (arith, none)))
    (c.next_few-more.ensures.given source _ (c.loop-count.invariant.made source words k))

pub returns-then-more-eq0-clause-whole : goal.returns-then-more-eq0-clause-whole
returns-then-more-eq0-clause-whole c source words k lt =
    let within = c.loop-count.invariant.within in
    let long = c.loop-count.auto.block in
    subst (λ (w : List Word). IsBurstStream source w)
    (put_none words c.loop-count.block c.next_few-more.new.block _ c.loop-count.count (omega (arith, within, long)))
    (c.next_few-more.ensures.whole source _ (c.loop-count.invariant.made source words k) c.if-more-eq0.true)

pub returns-then-more-eq0-clause-rest : goal.returns-then-more-eq0-clause-rest
returns-then-more-eq0-clause-rest c =
    let none = c.if-more-eq0.true in
    let within = c.loop-count.invariant.within in
    let long = c.loop-count.auto.block in
    rest_put c.loop-count.block c.args.block.now c.next_few-more.new.block c.loop-count.count (length c.loop-count.block - c.loop-count.count) c.next_few-more.result c.loop-count.count (omega (arith, within, long)) c.next_few-more.ensures.within c.next_few-more.ensures.long c.next_few-more.ensures.rest c.loop-count.invariant.rest (omega (arith, none))

pub loop-count-preserved : goal.loop-count-preserved
loop-count-preserved c =
    let here = c.loop-count-test.true in
    let long = c.loop-count.auto.block in
    let within = c.next_few-more.ensures.within in
    let same = c.next_few-more.ensures.long in
    let cut = length-take (length c.loop-count.block - c.loop-count.count) (drop c.loop-count.count c.loop-count.block) in
    let rest = length-drop c.loop-count.count c.loop-count.block in
    record {
      within = omega (arith, here, long, within, cut, rest);
      made = λ source words k. subst (λ (w : List Word). GaveWords c.next_few-more.new.self source w)
          (put_more words c.loop-count.block c.next_few-more.new.block _ c.loop-count.count c.next_few-more.result (c.loop-count.count + c.next_few-more.result) (omega (arith, here)) (omega (arith, within, same)) refl)
          (c.next_few-more.ensures.given source _ (c.loop-count.invariant.made source words k));
      rest = rest_put c.loop-count.block c.args.block.now c.next_few-more.new.block c.loop-count.count (length c.loop-count.block - c.loop-count.count) c.next_few-more.result (c.loop-count.count + c.next_few-more.result) (omega (arith, here)) c.next_few-more.ensures.within c.next_few-more.ensures.long c.next_few-more.ensures.rest c.loop-count.invariant.rest refl;
    }

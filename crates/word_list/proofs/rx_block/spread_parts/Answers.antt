-- One more word is written.
use Rattle.std.proofs.Common.{sym, ap, ◌∙◌, ◌+◌, List, drop}
use Rattle.lk_base.specs.declared.word.RxWord.{RxWord}
use Rattle.lk_base.specs.declared.word.RxWord.TheVariants.{Data}
use Rattle.word_list.specs.Received.{rx_words_of, spread}
use Rattle.word_list.proofs.Spread.{left_more, spread_more}
use Rattle.word_list.proofs.rx_block.spread_parts.Goals as goal

pub loop-word-preserved : goal.loop-word-preserved
loop-word-preserved c =
    let i = c.loop-word.invariant in
    let k = c.loop-word.word-index in
    let at = c.loop-word.at in
    let step = c.args.step in
    let words = c.args.words.now in record {
      numbers = c.set_part.ensures.numbers ∙ i.numbers;
      kinds = c.set_part.ensures.kinds ∙ i.kinds;
      left = left_more step at k words (Data 0) c.loop-word-test.true ∙ i.left;
      words = ap (λ (block : List RxWord). spread step (at + step) (drop (k + 1) words) block) c.set_part.ensures.words
          ∙ sym (spread_more step at k words (rx_words_of c.loop-word.numbers c.loop-word.kinds) (Data 0) c.loop-word-test.true) ∙ i.words;
    }

-- The first of the words that wait is taken.
use Rattle.std.proofs.Common.{List, ◌++◌, subst, sym}
use Rattle.lk_base.specs.declared.word.Aligned.{Aligned}
use Rattle.rx_front.specs.Standing.{Stands}
use Rattle.rx_front.specs.Waiting.{words_in}
use Rattle.live_gatherer.specs.Bits.{AreWords}
use Rattle.live_gatherer.proofs.Bits.{are_words_drop, are_words_from}
use Rattle.live_gatherer.proofs.Firsts.{first_is}
use Rattle.live_gatherer.proofs.items.next_word.Goals as goal

pub returns-clause-words : goal.returns-clause-words
returns-clause-words c =
    subst AreWords (sym c.pass.ensures.waiting) (are_words_drop 1 c.args.front.now.waiting (subst AreWords (sym c.at-at.ensures.waiting) (are_words_from c.at-at.result.group c.at-at.result.index (words_in c.args.front.now.waiting))))

pub returns-clause-gives : goal.returns-clause-gives
returns-clause-gives c = λ s fed items t st.
    subst (λ (xs : List Aligned). Stands c.pass.new.self s fed (items ++ xs) t) (first_is c.args.front.now.waiting c.at-at.result (words_in c.args.front.now.waiting) c.word-word.result _ c.at-at.ensures.waiting c.word-word.ensures c.requires) (c.pass.ensures.stands s fed items t st)

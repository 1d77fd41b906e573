-- Words that wait come first.
use Rattle.live_gatherer.proofs.items.next_item.Goals as goal

pub returns-clause-gives : goal.returns-clause-gives
returns-clause-gives c = λ s fed items t st. c.next_word.ensures.gives s fed items t (c.fill.ensures.stands s fed items t st)

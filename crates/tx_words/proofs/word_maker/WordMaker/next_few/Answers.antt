-- Where no data word is next, one word is made.
use Rattle.std.proofs.Common.{ℕ, ◌≤◌, ◌++◌, List, take, sym, ap, subst, arith, append-nil}
use Rattle.lk_base.specs.declared.word.Word.{Word}
use Rattle.stream_model.specs.BurstStream.{Source}
use Rattle.burst_scheduler.proofs.Lists.{take_set}
use Rattle.tx_words.specs.Making.{GaveWords}
use Rattle.tx_words.specs.declared.word_maker.WordMaker.{WordMaker}
use Rattle.tx_words.proofs.BlockWords.{none_more, rest_one, rest_whole}
use Rattle.tx_words.proofs.word_maker.WordMaker.next_few.Goals as goal

pub next-requires : goal.next-requires
next-requires c = let (source, words, k) = c.requires.made in (source, _, c.data_run-count.ensures.given source words k)

-- where no word was added, the maker is where it was
unmoved : (old new : WordMaker) (block : List Word) (n : ℕ) → n ≤ 0 → ((source : Source) (words : List Word) → GaveWords old source words → GaveWords new source (words ++ take n block))
    → (source : Source) (words : List Word) → GaveWords old source words → GaveWords new source words
unmoved old new block n none given source words k = subst (λ (w : List Word). GaveWords new source w) (none_more words block n none) (given source words k)

pub returns-in-Some-clause-given : goal.returns-in-Some-clause-given
returns-in-Some-clause-given c source words k =
    let long = c.data_run-count.ensures.long in
    let room = c.requires.room in
    subst (λ (w : List Word). GaveWords c.next.new.self source w) (ap (λ (w : List Word). words ++ w) (sym (take_set c.data_run-count.new.block 0 c.in-Some.word (omega (arith, long, room)))))
    (c.next.ensures.some source words c.in-Some.word (unmoved c.args.self.now c.data_run-count.new.self c.data_run-count.new.block c.data_run-count.result c.if-count-gt0.false c.data_run-count.ensures.given source words k) c.in-Some.is)

pub returns-in-None-clause-given : goal.returns-in-None-clause-given
returns-in-None-clause-given c source words k =
    subst (λ (w : List Word). GaveWords c.next.new.self source w) (sym (append-nil words)) (c.next.ensures.none source words (unmoved c.args.self.now c.data_run-count.new.self c.data_run-count.new.block c.data_run-count.result c.if-count-gt0.false c.data_run-count.ensures.given source words k) c.in-None.is).0

pub returns-in-None-clause-whole : goal.returns-in-None-clause-whole
returns-in-None-clause-whole c source words k e = (c.next.ensures.none source words (unmoved c.args.self.now c.data_run-count.new.self c.data_run-count.new.block c.data_run-count.result c.if-count-gt0.false c.data_run-count.ensures.given source words k) c.in-None.is).1

pub returns-in-Some-clause-rest : goal.returns-in-Some-clause-rest
returns-in-Some-clause-rest c = rest_one c.data_run-count.new.block c.args.block.now c.data_run-count.result c.in-Some.word c.if-count-gt0.false c.data_run-count.ensures.rest

pub returns-in-None-clause-rest : goal.returns-in-None-clause-rest
returns-in-None-clause-rest c = rest_whole c.data_run-count.new.block c.args.block.now c.data_run-count.result c.if-count-gt0.false c.data_run-count.ensures.rest

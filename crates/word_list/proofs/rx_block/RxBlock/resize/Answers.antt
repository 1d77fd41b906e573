use Rattle.std.proofs.Common.{sym, ◌∙◌}
use Rattle.word_list.proofs.Received.{kept_words, length-rx_words_of}
use Rattle.word_list.proofs.rx_block.RxBlock.resize.Goals as goal

pub returns-clause-words : goal.returns-clause-words
returns-clause-words c =
    length-rx_words_of c.resize_parts.new.numbers.items c.resize_parts.new.kinds.items (c.resize_parts.ensures.kinds ∙ sym c.resize_parts.ensures.numbers) ∙ c.resize_parts.ensures.numbers

pub returns-clause-kept : goal.returns-clause-kept
returns-clause-kept c =
    let old = c.self.inside in
    let new = c.resize_parts.new in
    kept_words c.args.self.now old.room c.args.count old.numbers.items new.numbers.items old.kinds.items new.kinds.items c.self.view_is c.self.invariant.0
    (c.resize_parts.ensures.kinds ∙ sym c.resize_parts.ensures.numbers) c.resize_parts.ensures.numbers_kept c.resize_parts.ensures.kinds_kept

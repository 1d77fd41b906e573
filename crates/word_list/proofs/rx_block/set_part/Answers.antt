use Rattle.std.proofs.Common.{◌∙◌, ap, set, ℕ}
use Rattle.lk_base.specs.Words.{number_of}
use Rattle.word_list.specs.declared.kind.WordKind.{WordKind}
use Rattle.word_list.specs.Received.{rx_words_of}
use Rattle.word_list.proofs.Received.{rx_words_of-set}
use Rattle.word_list.proofs.rx_block.set_part.Goals as goal

pub returns-clause-words : goal.returns-clause-words
returns-clause-words c =
    let xs = c.args.numbers.now in
    let ks = c.args.kinds.now in
    let i = c.args.place in
    ap (λ (n : ℕ). rx_words_of (set xs i n) (set ks i c.kind_of.result)) c.number_or_zero.ensures
    ∙ ap (λ (k : WordKind). rx_words_of (set xs i (number_of c.args.word)) (set ks i k)) c.kind_of.ensures
    ∙ rx_words_of-set xs ks i c.args.word c.requires.kinds c.requires.there

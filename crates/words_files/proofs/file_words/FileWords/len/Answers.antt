use Rattle.std.proofs.Common.{◌∙◌, sym, ap, List, length, arith}
use Rattle.words_files.specs.declared.file_word.FileWord.{FileWord}
use Rattle.words_files.proofs.ByNumber.{words_counted}
use Rattle.words_files.proofs.file_words.FileWords.len.Goals as goal

pub returns-clause-value : goal.returns-clause-value
returns-clause-value c = sym (words_counted c.self.inside.bytes.items c.self.inside.count c.self.invariant) ∙ ap (λ (ws : List FileWord). length ws) c.self.view_is

pub returns-clause-few : goal.returns-clause-few
returns-clause-few c =
    let count = sym (words_counted c.self.inside.bytes.items c.self.inside.count c.self.invariant) ∙ ap (λ (ws : List FileWord). length ws) c.self.view_is in
    let whole = c.self.invariant in
    let len = c.self.inside.bytes.ok.0 in
    omega (arith, count, whole, len)

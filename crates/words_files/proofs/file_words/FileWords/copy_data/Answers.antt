-- The words are those of the file's bytes.
use Rattle.std.proofs.Common.{◌≡◌, ◌∙◌, ◌+◌, ◌*◌, ◌<◌, ◌≤◌, ℕ, List, length, get_or, sym, ap, subst, arith, false}
use Rattle.words_files.specs.FileWord.{is_data}
use Rattle.words_files.specs.declared.file_word.FileWord.{FileWord}
use Rattle.words_files.specs.declared.file_word.FileWord.TheVariants as file
use Rattle.words_files.proofs.ByNumber.{words_counted}
use Rattle.words_files.proofs.Copied.{words_in}
use Rattle.words_files.proofs.file_words.FileWords.copy_data.Goals as goal

pub overflow_sub-self-inside : goal.overflow_sub-self-inside
overflow_sub-self-inside c =
    let count : c.self.inside.count ≡ length c.args.self.now = sym (words_counted c.self.inside.bytes.items c.self.inside.count c.self.invariant) ∙ ap (λ (ws : List FileWord). length ws) c.self.view_is in
    let within = c.requires in
    omega (arith, count, within)

pub copy_numbers-requires-clause-there : goal.copy_numbers-requires-clause-there
copy_numbers-requires-clause-there c =
    let count : c.self.inside.count ≡ length c.args.self.now = sym (words_counted c.self.inside.bytes.items c.self.inside.count c.self.invariant) ∙ ap (λ (ws : List FileWord). length ws) c.self.view_is in
    let within = c.requires in
    let most = c.min-most.ensures in
    let whole = c.self.invariant in
    let long : 9 * (c.args.from + c.min-most.result) ≤ length c.self.inside.bytes.items = omega (arith, count, within, most, whole) in
    subst (λ (bs : List ℕ). 9 * (c.args.from + c.min-most.result) ≤ length bs) (sym c.deref.ensures.value) long

pub returns-clause-stops : goal.returns-clause-stops
returns-clause-stops c fits left =
    let count : c.self.inside.count ≡ length c.args.self.now = sym (words_counted c.self.inside.bytes.items c.self.inside.count c.self.invariant) ∙ ap (λ (ws : List FileWord). length ws) c.self.view_is in
    let within = c.requires in
    let most = c.min-most.ensures in
    let long = c.copy_numbers.ensures.long in
    let less : c.copy_numbers.result < c.min-most.result = omega (arith, count, within, most, long, fits, left) in
    let same : words_in c.deref.result.now ≡ c.args.self.now = ap words_in c.deref.ensures.value ∙ c.self.view_is in
    subst (λ (ws : List FileWord). is_data (get_or ws (c.args.from + c.copy_numbers.result) (file.Bad 0)) ≡ false) same (c.copy_numbers.ensures.stops less)

use Rattle.std.proofs.Common.{◌+◌, ◌*◌, ◌≤◌, ◌∙◌, sym, ap, subst, arith, length, map, Some, slice_get, take, drop, List, ℕ}
use Rattle.std.proofs.lemmas.List.{take-take}
use Rattle.std.proofs.lemmas.Option.{slice_get_past}
use Rattle.words_files.specs.declared.file_word.FileWord.{FileWord}
use Rattle.words_files.specs.WordsOfFile.{cut_file, file_word_in}
use Rattle.words_files.proofs.ByNumber.{nine_there, word_at, words_counted}
use Rattle.words_files.proofs.file_words.FileWords.get.Goals as goal

pub bytes_of_word-requires : goal.bytes_of_word-requires
bytes_of_word-requires c =
    let h : 9 * c.args.index + 9 ≤ length c.self.inside.bytes.items = omega (arith, c.self.invariant, c.if-index-self.true) in
    subst (λ (bs : List ℕ). 9 * c.args.index + 9 ≤ length bs) (sym c.deref.ensures.value) h

pub word_in-requires : goal.word_in-requires
word_in-requires c =
    let bytes : List ℕ = c.self.inside.bytes.items in
    let h : 9 * c.args.index + 9 ≤ length c.self.inside.bytes.items = omega (arith, c.self.invariant, c.if-index-self.true) in
    let nine = nine_there bytes c.args.index h in
    subst (λ (bs : List ℕ). 9 ≤ length bs) (sym (c.bytes_of_word.ensures ∙ ap (λ (bs : List ℕ). take 9 (drop (9 * c.args.index) bs)) c.deref.ensures.value)) (omega (arith, nine))

pub returns-then-index-self : goal.returns-then-index-self
returns-then-index-self c =
    let bytes : List ℕ = c.self.inside.bytes.items in
    let h : 9 * c.args.index + 9 ≤ length c.self.inside.bytes.items = omega (arith, c.self.invariant, c.if-index-self.true) in
    ap (λ (w : FileWord). Some w) (c.word_in.ensures.word ∙ ap (λ (bs : List ℕ). file_word_in (take 9 bs)) (c.bytes_of_word.ensures ∙ ap (λ (bs : List ℕ). take 9 (drop (9 * c.args.index) bs)) c.deref.ensures.value))
    ∙ ap (λ (bs : List ℕ). Some (file_word_in bs)) (take-take 9 9 (drop (9 * c.args.index) bytes) (omega arith))
    ∙ sym (word_at c.args.index bytes h)
    ∙ ap (λ (ws : List FileWord). slice_get ws c.args.index) c.self.view_is

pub returns-else-index-self : goal.returns-else-index-self
returns-else-index-self c =
    let count = words_counted c.self.inside.bytes.items c.self.inside.count c.self.invariant in
    let past : length (map file_word_in (cut_file c.self.inside.bytes.items)) ≤ c.args.index = omega (arith, count, c.if-index-self.false) in
    sym (slice_get_past (map file_word_in (cut_file c.self.inside.bytes.items)) c.args.index past) ∙ ap (λ (ws : List FileWord). slice_get ws c.args.index) c.self.view_is

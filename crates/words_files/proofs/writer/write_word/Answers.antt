-- The tag comes before the eight bytes of the number.
use Rattle.std.proofs.Common.{◌≡◌, ◌∙◌, ◌+◌, ◌-◌, ◌++◌, ◌∷◌, [], ℕ, List, ap, length, take, set, append_assoc, arith, rules}
use Rattle.std.specs.Int.{bytes_high_first}
use Rattle.std.proofs.lemmas.List.{length-set, take_more_set}
use Rattle.std.proofs.lemmas.Slice.{take-put_mid}
use Rattle.words_files.specs.FileWord.{file_number}
use Rattle.words_files.proofs.writer.write_word.Goals as goal

pub returns-clause-put : goal.returns-clause-put
returns-clause-put c =
    let at = c.args.at in
    let bytes = c.args.bytes.now in
    let tag = c.tag.result in
    let number = c.write_u64.new.buf in
    let same : number ≡ bytes_high_first 8 (file_number c.args.word) = search rules in
    let eight : length number ≡ 8 = ap length same in
    let long : length (set bytes at tag) ≡ length bytes = length-set bytes at tag in
    let fits = c.requires in
    take-put_mid (at + 1) (at + 9 - (at + 1)) (set bytes at tag) number (at + 9) (omega (arith, eight)) (omega (arith, long, fits))
    ∙ ap (λ (bs : List ℕ). bs ++ number) (take_more_set bytes at tag (omega (arith, fits)))
    ∙ append_assoc (take at bytes) (tag ∷ []) number
    ∙ ap (λ (bs : List ℕ). take at bytes ++ tag ∷ bs) same
    ∙ ap (λ (t : ℕ). take at bytes ++ t ∷ bytes_high_first 8 (file_number c.args.word)) c.tag.ensures

use Rattle.std.proofs.Common.{◌≡◌, ◌≤◌, Bool, true, false, cond, Some, None, length, take, refl, ap, sym, ◌∙◌, arith}
use Rattle.words_files.specs.FileWord.{nine_bytes}
use Rattle.words_files.specs.Tags.{has_other_tag}
use Rattle.words_files.specs.declared.error.WordsError.{WordsError}
use Rattle.words_files.proofs.Nine.{first_nine}
use Rattle.words_files.proofs.reader.read_word.Goals as goal

not_wrong : (wrong short : Bool) (x y : WordsError) → cond wrong (Some x) (cond short (Some y) None) ≡ None → wrong ≡ false
not_wrong true short x y e = absurd cc
not_wrong false short x y e = refl

pub returns-in-None-clause-bytes : goal.returns-in-None-clause-bytes
returns-in-None-clause-bytes c =
    let long : 9 ≤ length c.args.bytes.now = c.in-None.ensures.whole refl in
    let right : has_other_tag c.args.tags (take 9 c.args.bytes.now) ≡ false = not_wrong _ _ _ _ (sym c.in-None.ensures.refusal) in
    first_nine c.args.tags c.args.bytes.now long (λ i. omega (arith, c.type_inv.bytes i)) right ∙ ap nine_bytes (sym c.word_in.ensures.word)

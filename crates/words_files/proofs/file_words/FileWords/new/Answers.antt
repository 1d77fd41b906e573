use Rattle.std.proofs.Common.{◌≡◌, ◌*◌, ◌/◌, ◌∙◌, sym, ap, subst, arith, List, ℕ, Option, IfNone, length}
use Rattle.std.specs.Result.{result_err}
use Rattle.words_files.specs.declared.error.WordsError.{WordsError}
use Rattle.words_files.specs.Tags.{file_words}
use Rattle.words_files.proofs.ByNumber.{accepted_words, refused_words}
use Rattle.words_files.proofs.file_words.FileWords.new.Goals as goal

pub invariant_of-result : goal.invariant_of-result
invariant_of-result c =
    let same : length c.deref.result.now ≡ length c.args.bytes.items = ap (λ (bs : List ℕ). length bs) c.deref.ensures.value in
    let whole : length c.deref.result.now ≡ 9 * (length c.deref.result.now / 9) = subst (λ (o : Option WordsError). IfNone o (length c.deref.result.now ≡ 9 * (length c.deref.result.now / 9))) c.in-None.is c.refusal_of.ensures.whole in
    omega (arith, same, whole, c.len-count.ensures, c.deref.ensures.len)

pub returns-in-Some : goal.returns-in-Some
returns-in-Some c =
    refused_words c.args.tags c.args.bytes.items c.in-Some.refusal (ap (λ (bs : List ℕ). result_err (file_words c.args.tags bs)) (sym c.deref.ensures.value) ∙ sym c.refusal_of.ensures.refusal ∙ c.in-Some.is)

pub returns-in-None : goal.returns-in-None
returns-in-None c =
    accepted_words c.args.tags c.args.bytes.items (ap (λ (bs : List ℕ). result_err (file_words c.args.tags bs)) (sym c.deref.ensures.value) ∙ sym c.refusal_of.ensures.refusal ∙ c.in-None.is)

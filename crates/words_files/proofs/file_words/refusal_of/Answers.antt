use Rattle.std.proofs.Common.{◌≡◌, ◌<◌, ◌+◌, ◌-◌, ◌≤◌, ◌∙◌, sym, ap, length, rules, arith, length-drop, List, ℕ}
use Rattle.std.specs.Result.{result_err}
use Rattle.words_files.specs.Tags.{file_words_from}
use Rattle.words_files.specs.WordsOfFile.{cut_file}
use Rattle.words_files.proofs.ByNumber.{err_more, err_there}
use Rattle.words_files.proofs.file_words.refusal_of.Goals as goal

pub returns-in-Some-clause-refusal : goal.returns-in-Some-clause-refusal
returns-in-Some-clause-refusal c =
    let some : 0 < length c.loop-rest.rest.now = search rules in
    sym (c.loop-rest.invariant.same ∙ err_there c.args.tags c.loop-rest.offset c.loop-rest.rest.now c.in-Some.refusal some (sym c.in-Some.ensures.refusal))

pub loop-rest-preserved : goal.loop-rest-preserved
loop-rest-preserved c =
    let some : 0 < length c.loop-rest.rest.now = search rules in
    let whole : 9 ≤ length c.loop-rest.rest.now = c.first_refusal.ensures.whole c.in_default.is in
    let less : length c.tail-rest.result.now ≡ length c.loop-rest.rest.now - 9 = ap length c.tail-rest.ensures ∙ length-drop 9 c.loop-rest.rest.now in
    record {
      same =
          c.loop-rest.invariant.same
          ∙ err_more c.args.tags c.loop-rest.offset c.loop-rest.rest.now some (sym c.first_refusal.ensures.refusal ∙ c.in_default.is)
          ∙ ap (λ (rest : List ℕ). result_err (file_words_from c.args.tags (c.loop-rest.offset + 9) (cut_file rest))) (sym c.tail-rest.ensures);
      stands = omega (arith, c.loop-rest.invariant.stands);
      whole = (let w = c.loop-rest.invariant.whole in omega (arith, w));
    }

-- The result of many words.
use Rattle.std.proofs.Common.{◌∙◌, Option, ap, sym, subst, refl, arith}
use Rattle.live_checker.specs.declared.misuse.Misuse.{Misuse}
use Rattle.live_checker.specs.Standing.{Checked, Checks}
use Rattle.c_checker.specs.Many.{asked, words_code}
use Rattle.c_checker.proofs.Taken.{after_refused, code_empty, code_some, code_stuck, count_refused, some_left}
use Rattle.c_checker.proofs.many.give_words.Goals as goal

pub returns-in-Some : goal.returns-in-Some
returns-in-Some c =
    let words = asked c.args.words.now in
    record {
      code = λ x k. c.misuse_code.ensures ∙ ap (λ (o : Option Misuse). words_code words o) (sym c.in-Some.is ∙ c.refusal.ensures x k);
      count = λ x k. c.requires ∙ sym (count_refused words x c.in-Some.why (sym (c.refusal.ensures x k) ∙ c.in-Some.is));
      takes = λ x k. subst (λ (y : Checked). Checks c.args.checker.now y) (sym (after_refused words x c.in-Some.why (sym (c.refusal.ensures x k) ∙ c.in-Some.is))) k;
      same = λ e. refl;
    }

pub returns-then-count-gt0 : goal.returns-then-count-gt0
returns-then-count-gt0 c =
    let words = asked c.args.words.now in
    record {
      code = λ x k. code_some words x c.take_words-count.result (c.take_words-count.ensures.count x k) c.if-count-gt0.true
          ∙ ap (λ (o : Option Misuse). words_code words o) (sym c.in_default.is ∙ c.refusal.ensures x k);
      count = c.take_words-count.ensures.count;
      takes = c.take_words-count.ensures.takes;
      same = c.take_words-count.ensures.same;
    }

pub returns-then-is_empty : goal.returns-then-is_empty
returns-then-is_empty c =
    let words = asked c.args.words.now in
    record {
      code = λ x k. code_empty c.args.words.now (c.if-is_empty.ensures {u = tt})
          ∙ ap (λ (o : Option Misuse). words_code words o) (sym c.in_default.is ∙ c.refusal.ensures x k);
      count = c.take_words-count.ensures.count;
      takes = c.take_words-count.ensures.takes;
      same = c.take_words-count.ensures.same;
    }

pub returns : goal.returns
returns c =
    let words = asked c.args.words.now in
    record {
      code = λ x k. code_stuck c.args.words.now x c.take_words-count.result (c.take_words-count.ensures.count x k) (sym (c.refusal.ensures x k) ∙ c.in_default.is)
          (omega (arith, c.if-count-gt0.false)) (some_left c.args.words.now (c.if-is_empty.ensures {u = tt}))
          ∙ ap (λ (o : Option Misuse). words_code words o) (sym c.in_default.is ∙ c.refusal.ensures x k);
      count = c.take_words-count.ensures.count;
      takes = c.take_words-count.ensures.takes;
      same = c.take_words-count.ensures.same;
    }

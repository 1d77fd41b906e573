-- Data words as sent, or the first word.
use Rattle.std.proofs.Common.{refl, sym, subst, inl, inr, arith}
use Rattle.lk_base.specs.declared.word.RxWord.{RxWord}
use Rattle.link_replay.specs.Standing.{TakesWord, Watch}
use Rattle.link_replay.proofs.Fronts.{runs_further}
use Rattle.link_replay.proofs.accident_watch.AccidentWatch.next.Goals as goal

pub returns-then-count-gt0-clause-takes : goal.returns-then-count-gt0-clause-takes
returns-then-count-gt0-clause-takes c = λ words room fits begin first.
    inl (runs_further c.args.numbers.now words begin c.args.self.now c.run-count.new.self c.args.sent.now c.args.slot room c.run-count.result c.run-count.ensures.few (c.run-count.ensures.runs c.if-count-gt0.true room fits))

pub returns-clause-takes : goal.returns-clause-takes
returns-clause-takes c = λ words room fits begin first. (
    let few = c.if-count-gt0.false in
    let none = c.run-count.ensures.none (omega (arith, few)) in
    inr (refl, subst (λ (w : RxWord). TakesWord c.args.self.now c.word.new.self c.args.sent.now c.args.slot c.args.at w) (sym first) (subst (λ (v : Watch). TakesWord v c.word.new.self c.args.sent.now c.args.slot c.args.at c.args.first) none c.word.ensures)))

use Rattle.std.proofs.Common.{ℕ, ◌^◌, ◌++◌, ap, sym, subst, List, reverse, take}
use Rattle.lk_base.specs.declared.word.RxWord.{RxWord}
use Rattle.word_rules.specs.declared.fault.Fault.{Fault}
use Rattle.word_rules.specs.Faults.{Plan, faults, plan_by}
use Rattle.word_rules.specs.Checks.{Keeps}
use Rattle.word_rules.proofs.Making.{earlier_few, earlier_more, rows_more, rows_done}
use Rattle.word_rules.proofs.checker.check.Goals as goal

pub loop-i-init : goal.loop-i-init
loop-i-init c =
    let p : Plan = plan_by c.args.plan.now in
    record { keeps = c.in_ok-checker.ensures; rows = ap (λ (l : List Fault). l ++ faults p c.args.words.now) c.new-found.ensures.items }

pub step-requires : goal.step-requires
step-requires c =
    let p : Plan = plan_by c.args.plan.now in
    (p, reverse (take c.loop-i.i c.args.words.now), c.loop-i.invariant.keeps, earlier_few c.loop-i.i (2 ^ 57) c.args.words.now c.requires.words)

pub loop-i-preserved : goal.loop-i-preserved
loop-i-preserved c =
    let p : Plan = plan_by c.args.plan.now in
    let i : ℕ = c.loop-i.i in
    let e : List RxWord = reverse (take i c.args.words.now) in
    record {
      keeps = subst (λ (before : List RxWord). Keeps c.step.new.self p before) (sym (earlier_more c.args.words.now i _ c.loop-i-test.true)) (c.in_ok-step.ensures.keeps p e c.loop-i.invariant.keeps);
      rows = rows_more p c.args.words.now i _ c.loop-i.found.items c.step.new.faults.items (faults p c.args.words.now) c.word_at-next.result c.loop-i-test.true c.word_at-next.ensures
          (c.in_ok-step.ensures.rows p e c.loop-i.invariant.keeps c.requires.rows) c.loop-i.invariant.rows;
    }

pub returns : goal.returns
returns c =
    let p : Plan = plan_by c.args.plan.now in
    rows_done p c.args.words.now c.loop-i.i c.loop-i.found.items (faults p c.args.words.now) c.loop-i-test.false c.loop-i.invariant.rows

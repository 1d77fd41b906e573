use Rattle.std.proofs.Common.{◌<◌, ◌≡◌, ◌∙◌, List, ℕ, subst}
use Rattle.std.proofs.lemmas.Result.{err_from_is_err_and}
use Rattle.lk_outside.specs.Files.{Told}
use Rattle.run_shell.specs.Outcome.{HoldsPart}
use Rattle.run_shell.specs.Outputs.{outs}
use Rattle.run_shell.specs.Writing.{delivered}
use Rattle.run_shell.specs.Making.{AllBegin, IfMore}
use Rattle.run_shell.proofs.MakersWork.{goes_done, goes_more, one_begins}
use Rattle.run_shell.proofs.making.take_steps.Goals as goal

pub take_step-requires-clause-stands : goal.take_step-requires-clause-stands
take_step-requires-clause-stands g c =
    let (given, was, m, o) = c.requires.stands in
    let (now, gave, open_now) = c.working.invariant.going given was m o in
    (now, was, gave, open_now)

pub returns-in_err-take_step-clause-works : goal.returns-in_err-take_step-clause-works
returns-in_err-take_step-clause-works g c =
    let p = err_from_is_err_and c.from_residual.result c.from_residual.ensures.1 in
    rw p.1 (λ given was m o.
    let (now, gave, open_now) = c.working.invariant.going given was m o in
    subst (λ i. (x : List (List ℕ)) × AllBegin (g.M.Maker.IsMade i) (g.M.Maker.named i) x × Told was (g.S.Store.files c.take_step.new.store) (HoldsPart (outs (g.M.Maker.named i) x))) c.working.invariant.inputs
    ((c.in_err-take_step.ensures {u = tt}).steps now was gave open_now))

pub working-smaller : goal.working-smaller
working-smaller g c =
    (subst (IfMore ((g.M.Maker.left c.take_step.new.maker < g.M.Maker.left c.working.maker) × (g.M.Maker.inputs c.take_step.new.maker ≡ g.M.Maker.inputs c.working.maker))) c.in-More.is (c.in_ok-take_step.ensures {u = tt}).less).0

pub working-preserved : goal.working-preserved
working-preserved g c =
    let e = c.in_ok-take_step.ensures {u = tt} in
    let i = c.working.invariant in
    let less = subst (IfMore ((g.M.Maker.left c.take_step.new.maker < g.M.Maker.left c.working.maker) × (g.M.Maker.inputs c.take_step.new.maker ≡ g.M.Maker.inputs c.working.maker))) c.in-More.is e.less in
    record {
      same_faults = e.cause ∙ i.same_faults;
      opens = e.opens ∙ i.opens;
      inputs = less.1 ∙ i.inputs;
      going = λ given was m o.
          let (now, gave, open_now) = i.going given was m o in
          let (next, goes, stand) = e.steps now was gave open_now in
          (next, goes_more _ _ _ c.in-More.is goes, stand);
    }

pub returns-in-Done-clause-works : goal.returns-in-Done-clause-works
returns-in-Done-clause-works g c = λ given was m o.
    let e = c.in_ok-take_step.ensures {u = tt} in
    let i = c.working.invariant in
    let (now, gave, open_now) = i.going given was m o in
    let (next, goes, stand) = e.steps now was gave open_now in
    let made = subst (λ n. g.M.Maker.IsMade n (delivered (g.M.Maker.named n) next c.in-Done.finished)) i.inputs (goes_done _ c.in-Done.finished _ _ c.in-Done.is goes) in (
      next,
      one_begins (g.M.Maker.IsMade (g.M.Maker.inputs c.args.maker.now)) (g.M.Maker.named (g.M.Maker.inputs c.args.maker.now)) next c.in-Done.finished (c.lawful.ensures.one (g.M.Maker.inputs c.args.maker.now)) made,
      made,
      stand,
    )

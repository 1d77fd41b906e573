use Rattle.std.proofs.Common.{◌∙◌, List, ℕ, sym, subst, Contains, Err}
use Rattle.std.proofs.lemmas.Result.{err_from_is_err_and}
use Rattle.lk_outside.specs.Files.{Told}
use Rattle.run_stops.specs.Stops.{StoreStops}
use Rattle.run_shell.specs.Outcome.{HoldsPart}
use Rattle.run_shell.specs.Outputs.{Differ, outs}
use Rattle.run_shell.specs.Writing.{Begin}
use Rattle.run_shell.specs.Rests.{join, rests_of}
use Rattle.run_shell.proofs.Rests.{given_joins, holds_more}
use Rattle.run_shell.proofs.MakersWork.{goes_by, goes_begins, open_stands}
use Rattle.run_shell.proofs.making.take_step.Goals as goal

pub step-requires-clause-stands : goal.step-requires-clause-stands
step-requires-clause-stands g c =
    let (given, was, m, o) = c.requires.stands in
    (o.done, subst (g.M.Maker.gave c.args.maker.now) (given_joins c.args.outputs.now o.done given o.are) m)

pub append_pieces-requires-clause-differ : goal.append_pieces-requires-clause-differ
append_pieces-requires-clause-differ g c = subst Differ (sym (c.in_ok-step.ensures).opens) c.requires.differ

pub append_pieces-requires-clause-open : goal.append_pieces-requires-clause-open
append_pieces-requires-clause-open g c =
    let (given, was, m, o) = c.requires.stands in
    (join o.done (rests_of c.step.new.outputs), was, holds_more c.args.outputs.now c.step.new.outputs given was _ (c.in_ok-step.ensures).opens o)

pub returns-in_err-step-clause-steps : goal.returns-in_err-step-clause-steps
returns-in_err-step-clause-steps g c =
    let p = err_from_is_err_and c.from_residual.result c.from_residual.ensures.1 in
    rw p.1 (λ given was m o. (
      given,
      λ out is. c.lawful.ensures.begins c.args.maker.now given out m is,
      open_stands _ c.args.outputs.now given was _ c.requires.opens o,
    ))

pub returns-in_err-append_pieces-clause-stops : goal.returns-in_err-append_pieces-clause-stops
returns-in_err-append_pieces-clause-stops g c =
    let r = c.from_residual-in_err-append_pieces in
    let p = err_from_is_err_and r.result r.ensures.1 in
    rw (p.1, p.2) (subst (λ ns. StoreStops {T = Unit {0}} (Contains ns) (Err c.in_err-append_pieces.field-0.0)) (c.in_ok-step.ensures).opens (c.in_err-append_pieces.ensures).stops)

pub returns-in_err-append_pieces-clause-steps : goal.returns-in_err-append_pieces-clause-steps
returns-in_err-append_pieces-clause-steps g c =
    let r = c.from_residual-in_err-append_pieces in
    let p = err_from_is_err_and r.result r.ensures.1 in
    let e = c.in_ok-step.ensures in
    let i = g.M.Maker.inputs c.args.maker.now in
    rw p.1 (λ given was m o.
    let gave = subst (g.M.Maker.gave c.args.maker.now) (given_joins c.args.outputs.now o.done given o.are) m in
    let now = join o.done (rests_of c.step.new.outputs) in (
      now,
      goes_begins (g.M.Maker.IsMade i) (g.M.Maker.named i) c.in_ok-step.step now _ (g.M.Maker.gave c.step.new.self now) (c.lawful.ensures.one i)
          (λ less h out is.
          subst (λ n. Begin (g.M.Maker.named n) now out.files) less.1
          (c.lawful.ensures.begins c.step.new.self now out h (subst (λ n. g.M.Maker.IsMade n out) (sym less.1) is)))
          e.less
          (goes_by c.in_ok-step.step _ _ _ _ (λ h. h o.done gave) (λ f h. h o.done gave) e.gave e.made),
      subst (λ (ns : List (List ℕ)). Told was (g.S.Store.files c.append_pieces.new.store) (HoldsPart (outs ns now))) (e.opens ∙ c.requires.opens)
          ((c.in_err-append_pieces.ensures).grown now was (holds_more c.args.outputs.now c.step.new.outputs given was _ e.opens o)),
    ))

pub returns-clause-steps : goal.returns-clause-steps
returns-clause-steps g c = λ given was m o.
    let e = c.in_ok-step.ensures in
    let gave = subst (g.M.Maker.gave c.args.maker.now) (given_joins c.args.outputs.now o.done given o.are) m in
    let now = join o.done (rests_of c.step.new.outputs) in (
      now,
      goes_by c.in_ok-step.step _ _ _ _ (λ h. h o.done gave) (λ f h. h o.done gave) e.gave e.made,
      (c.in_ok-append_pieces.ensures).grown now was (holds_more c.args.outputs.now c.step.new.outputs given was _ e.opens o),
    )

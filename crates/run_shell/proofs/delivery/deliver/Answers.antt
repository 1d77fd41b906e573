use Rattle.std.proofs.Common.{◌∙◌, ◌+◌, arith, sym, subst, map, List, ℕ, Err, Ok}
use Rattle.std.proofs.lemmas.Result.{err_from_is_err_and}
use Rattle.run_shell.specs.Open.{Open}
use Rattle.run_shell.specs.Outputs.{IsOpen, Grown, Closed, Differ}
use Rattle.run_stops.specs.Reading.{vec_items}
use Rattle.run_shell.proofs.Delivering.{next_filled, place_below, up_to, ends_filled, nothing_delivered, named_stops, named_ends, at_first}
use Rattle.run_shell.proofs.delivery.deliver.Goals as goal

pub returns-in_err-outputs-clause-writes : goal.returns-in_err-outputs-clause-writes
returns-in_err-outputs-clause-writes g c =
    let r = c.from_residual in
    let p = err_from_is_err_and r.result r.ensures.1 in
    rw (p.1, p.2) (nothing_delivered _ (map vec_items c.args.contents.now) c.requires.each c.args.finished (List Open) c.in_err-outputs.field-0.0 _ _ c.in_err-outputs.ensures.stops c.in_err-outputs.ensures.created)

pub loop-place-init : goal.loop-place-init
loop-place-init g c = record { same_faults = c.in_ok-outputs.ensures.cause; names = c.in_ok-outputs.ensures.names; open_so_far = subst (λ (gs : List (List ℕ)). IsOpen c.in_ok-outputs.outputs gs (g.S.Store.files c.args.store.now) (g.S.Store.files c.create.new.store)) (at_first _ (map vec_items c.args.contents.now)) c.in_ok-outputs.ensures.created }

pub put-requires-clause-place : goal.put-requires-clause-place
put-requires-clause-place g c = place_below vec_items _ c.args.contents.now c.loop-place.outputs c.loop-place.place c.requires.each c.loop-place.invariant.names c.loop-place-test.true

pub put-requires-clause-differ : goal.put-requires-clause-differ
put-requires-clause-differ g c = subst Differ (sym c.loop-place.invariant.names) c.requires.differ

pub loop-place-preserved : goal.loop-place-preserved
loop-place-preserved g c = record {
  same_faults = c.in_ok-put.ensures.cause ∙ c.loop-place.invariant.same_faults;
  names = c.in_ok-put.ensures.names ∙ c.loop-place.invariant.names;
  open_so_far = subst (λ (gs : List (List ℕ)). IsOpen c.put.new.self gs (g.S.Store.files c.args.store.now) (g.S.Store.files c.put.new.store))
      (next_filled vec_items _ c.args.contents.now c.loop-place.place c.index-contents-place.result c.deref.result.now c.requires.each c.loop-place-test.true c.index-contents-place.is c.deref.ensures.value)
      (c.in_ok-put.ensures.grown _ _ c.loop-place.invariant.open_so_far);
}

pub returns-in_err-put-clause-writes : goal.returns-in_err-put-clause-writes
returns-in_err-put-clause-writes g c =
    let r = c.from_residual-in_err-put in
    let p = err_from_is_err_and r.result r.ensures.1 in
    let stood = subst (λ (gs : List (List ℕ)). Grown {T = Unit {0}} c.loop-place.outputs c.put.new.self gs (Err c.in_err-put.field-0.0) (g.S.Store.files c.args.store.now) (g.S.Store.files c.put.new.store))
    (next_filled vec_items _ c.args.contents.now c.loop-place.place c.index-contents-place.result c.deref.result.now c.requires.each c.loop-place-test.true c.index-contents-place.is c.deref.ensures.value)
    (c.in_err-put.ensures.grown _ _ c.loop-place.invariant.open_so_far) in
    rw (p.1, p.2) (named_stops _ (map vec_items c.args.contents.now) c.requires.each c.args.finished (Unit {0}) (c.loop-place.place + 1) c.in_err-put.field-0.0 _ c.loop-place.invariant.names _ _ (up_to vec_items c.args.contents.now (c.loop-place.place + 1) (omega arith)) c.in_err-put.ensures.stops stood)

pub finish-requires-clause-differ : goal.finish-requires-clause-differ
finish-requires-clause-differ g c = subst Differ (sym c.loop-place.invariant.names) c.requires.differ

pub returns-in_err-finish-clause-writes : goal.returns-in_err-finish-clause-writes
returns-in_err-finish-clause-writes g c =
    let r = c.from_residual-in_err-finish in
    let p = err_from_is_err_and r.result r.ensures.1 in
    rw (p.1, p.2) (named_stops _ (map vec_items c.args.contents.now) c.requires.each c.args.finished (Unit {0}) c.loop-place.place c.in_err-finish.field-0.0 _ c.loop-place.invariant.names _ _ (up_to vec_items c.args.contents.now c.loop-place.place c.loop-place.auto.place-end) c.in_err-finish.ensures.stops (c.in_err-finish.ensures.closed _ _ c.loop-place.invariant.open_so_far))

pub returns-clause-writes : goal.returns-clause-writes
returns-clause-writes g c =
    named_ends _ (map vec_items c.args.contents.now) c.requires.each c.args.finished _ c.loop-place.invariant.names _ _
    (subst (λ (gs : List (List ℕ)). Closed {T = Unit {0}} c.loop-place.outputs gs (Ok c.in_ok-finish.field-0) (g.S.Store.files c.args.store.now) (g.S.Store.files c.finish.new.store))
    (ends_filled vec_items _ c.args.contents.now c.loop-place.place c.requires.each c.loop-place-test.false c.loop-place.auto.place-end) (c.in_ok-finish.ensures.closed _ _ c.loop-place.invariant.open_so_far))

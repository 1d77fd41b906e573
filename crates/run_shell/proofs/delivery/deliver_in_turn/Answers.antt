use Rattle.std.proofs.Common.{◌∙◌, arith, sym, map, Err, string_bytes, Global}
use Rattle.std.proofs.lemmas.List.{length-map}
use Rattle.std.proofs.lemmas.Result.{err_from_is_err_and}
use Rattle.run_stops.specs.Reading.{vec_items}
use Rattle.run_shell.proofs.Creating.{named, named_at, stops_in}
use Rattle.run_shell.proofs.Delivering.{below_names, in_turn_fills, none_filled, turn_on, turn_stops, turn_there, turns_begin, turns_end}
use Rattle.run_shell.proofs.delivery.deliver_in_turn.Goals as goal

pub returns-in_err-create_all-clause-stops : goal.returns-in_err-create_all-clause-stops
returns-in_err-create_all-clause-stops g c =
    let r = c.from_residual in
    let p = err_from_is_err_and r.result r.ensures.1 in
    rw (p.1, p.2, sym c.deref.ensures.value) c.in_err-create_all.ensures.stops

pub returns-in_err-create_all-clause-in_turn : goal.returns-in_err-create_all-clause-in_turn
returns-in_err-create_all-clause-in_turn g c =
    let r = c.from_residual in
    let p = err_from_is_err_and r.result r.ensures.1 in
    rw (p.1, sym c.deref.ensures.value) (none_filled _ (map vec_items c.args.contents.now) c.in_err-create_all.field-0.0 _ _ c.in_err-create_all.ensures.created)

pub returns-in_err-create_all-clause-delivered : goal.returns-in_err-create_all-clause-delivered
returns-in_err-create_all-clause-delivered g c =
    let r = c.from_residual in
    let p = err_from_is_err_and r.result r.ensures.1 in
    rw p.1 (in_turn_fills _ (map vec_items c.args.contents.now) (Err c.in_err-create_all.field-0.0) _ _ c.requires.each
    (rw (sym c.deref.ensures.value) (none_filled _ (map vec_items c.args.contents.now) c.in_err-create_all.field-0.0 _ _ c.in_err-create_all.ensures.created)))

pub loop-turn-init : goal.loop-turn-init
loop-turn-init g c = record { same_faults = c.in_ok-create_all.ensures.cause; stand = turns_begin _ (map vec_items c.args.contents.now) c.requires.each c.requires.differ _ _ (rw (sym c.deref.ensures.value) c.in_ok-create_all.ensures.created) }

pub append_all-requires-clause-there : goal.append_all-requires-clause-there
append_all-requires-clause-there g c =
    let named_here = named (string_bytes {Z = Global}) c.args.names.items c.loop-turn.turn c.index.result.now c.as_str.result.now (below_names vec_items (string_bytes {Z = Global}) c.args.names.items c.args.contents.now c.loop-turn.turn c.requires.each c.loop-turn-test.true) c.index.ensures c.as_str.ensures.value in
    let held_here = named vec_items c.args.contents.now c.loop-turn.turn c.index-contents-turn.result c.deref-in-loop-turn.result.now c.loop-turn-test.true c.index-contents-turn.is c.deref-in-loop-turn.ensures.value in
    turn_there _ (map vec_items c.args.contents.now) c.requires.each c.requires.differ c.loop-turn.turn _ held_here.0 named_here.1 _ _ c.loop-turn.invariant.stand

pub returns-in_err-append_all-clause-stops : goal.returns-in_err-append_all-clause-stops
returns-in_err-append_all-clause-stops g c =
    let r = c.from_residual-in_err-append_all in
    let p = err_from_is_err_and r.result r.ensures.1 in
    let named_here = named (string_bytes {Z = Global}) c.args.names.items c.loop-turn.turn c.index.result.now c.as_str.result.now (below_names vec_items (string_bytes {Z = Global}) c.args.names.items c.args.contents.now c.loop-turn.turn c.requires.each c.loop-turn-test.true) c.index.ensures c.as_str.ensures.value in
    rw (p.1, p.2) (stops_in {T = Unit {0}} _ _ (Err c.in_err-append_all.field-0.0) (named_at _ c.loop-turn.turn _ named_here.0 named_here.1) c.in_err-append_all.ensures.stops)

pub returns-in_err-append_all-clause-in_turn : goal.returns-in_err-append_all-clause-in_turn
returns-in_err-append_all-clause-in_turn g c =
    let r = c.from_residual-in_err-append_all in
    let p = err_from_is_err_and r.result r.ensures.1 in
    let named_here = named (string_bytes {Z = Global}) c.args.names.items c.loop-turn.turn c.index.result.now c.as_str.result.now (below_names vec_items (string_bytes {Z = Global}) c.args.names.items c.args.contents.now c.loop-turn.turn c.requires.each c.loop-turn-test.true) c.index.ensures c.as_str.ensures.value in
    let held_here = named vec_items c.args.contents.now c.loop-turn.turn c.index-contents-turn.result c.deref-in-loop-turn.result.now c.loop-turn-test.true c.index-contents-turn.is c.deref-in-loop-turn.ensures.value in
    rw p.1 (turn_stops _ (map vec_items c.args.contents.now) c.requires.each c.requires.differ c.loop-turn.turn _ held_here.0 named_here.1 _ _ c.loop-turn.invariant.stand _ held_here.1 _ c.in_err-append_all.field-0.0 c.in_err-append_all.ensures.added)

pub returns-in_err-append_all-clause-delivered : goal.returns-in_err-append_all-clause-delivered
returns-in_err-append_all-clause-delivered g c =
    let r = c.from_residual-in_err-append_all in
    let p = err_from_is_err_and r.result r.ensures.1 in
    let named_here = named (string_bytes {Z = Global}) c.args.names.items c.loop-turn.turn c.index.result.now c.as_str.result.now (below_names vec_items (string_bytes {Z = Global}) c.args.names.items c.args.contents.now c.loop-turn.turn c.requires.each c.loop-turn-test.true) c.index.ensures c.as_str.ensures.value in
    let held_here = named vec_items c.args.contents.now c.loop-turn.turn c.index-contents-turn.result c.deref-in-loop-turn.result.now c.loop-turn-test.true c.index-contents-turn.is c.deref-in-loop-turn.ensures.value in
    rw p.1 (in_turn_fills _ (map vec_items c.args.contents.now) (Err c.in_err-append_all.field-0.0) _ _ c.requires.each
    (turn_stops _ (map vec_items c.args.contents.now) c.requires.each c.requires.differ c.loop-turn.turn _ held_here.0 named_here.1 _ _ c.loop-turn.invariant.stand _ held_here.1 _ c.in_err-append_all.field-0.0 c.in_err-append_all.ensures.added))

pub loop-turn-preserved : goal.loop-turn-preserved
loop-turn-preserved g c =
    let named_here = named (string_bytes {Z = Global}) c.args.names.items c.loop-turn.turn c.index.result.now c.as_str.result.now (below_names vec_items (string_bytes {Z = Global}) c.args.names.items c.args.contents.now c.loop-turn.turn c.requires.each c.loop-turn-test.true) c.index.ensures c.as_str.ensures.value in
    let held_here = named vec_items c.args.contents.now c.loop-turn.turn c.index-contents-turn.result c.deref-in-loop-turn.result.now c.loop-turn-test.true c.index-contents-turn.is c.deref-in-loop-turn.ensures.value in
    record {
      same_faults = c.in_ok-append_all.ensures.cause ∙ c.loop-turn.invariant.same_faults;
      stand = turn_on _ (map vec_items c.args.contents.now) c.requires.each c.requires.differ c.loop-turn.turn _ held_here.0 named_here.1 _ _ c.loop-turn.invariant.stand _ held_here.1 _ c.in_ok-append_all.ensures.added;
    }

pub returns-clause-in_turn : goal.returns-clause-in_turn
returns-clause-in_turn g c =
    let e = length-map c.args.contents.now vec_items in
    turns_end _ (map vec_items c.args.contents.now) c.requires.each c.requires.differ c.loop-turn.turn _ _ (omega (arith, e, c.loop-turn-test.false)) (omega (arith, e, c.loop-turn.auto.turn-end)) c.loop-turn.invariant.stand

pub returns-clause-delivered : goal.returns-clause-delivered
returns-clause-delivered g c =
    let e = length-map c.args.contents.now vec_items in
    turns_end _ (map vec_items c.args.contents.now) c.requires.each c.requires.differ c.loop-turn.turn _ _ (omega (arith, e, c.loop-turn-test.false)) (omega (arith, e, c.loop-turn.auto.turn-end)) c.loop-turn.invariant.stand

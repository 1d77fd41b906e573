use Rattle.std.proofs.Common.{◌≡◌, ◌∙◌, refl, ap, subst, arith, List, [], ℕ, length, map, replicate, Option, Some}
use Rattle.std.proofs.lemmas.Result.{err_from_is_err_and}
use Rattle.link_plan.specs.Views.{plan_value}
use Rattle.receive_model.specs.Events.{Setting}
use Rattle.rx_front.specs.Calls.{nothing_fed}
use Rattle.rx_end.proofs.Observed.{seen_fresh, told_fresh}
use Rattle.run_stops.specs.declared.stop.Stop.TheVariants as stop
use Rattle.receipts.specs.Receipts.{Beginning}
use Rattle.lane_receipts.specs.Feeding.{IsTaking}
use Rattle.lane_receipts.specs.Held.{HeldCame, HeldStopped, held_beginning, vec_bytes}
use Rattle.lane_receipts.specs.Holding.{AllHeld}
use Rattle.lane_receipts.proofs.HeldEnds.{as_many_lanes, begins_so, lanes_of_held, none_opened}
use Rattle.lane_receipts.proofs.HeldLanes.{held_came, memory_held, unopened_held}
use Rattle.receipts.proofs.Settings.{plan_setting, is_the_setting, the_setting}
use Rattle.lane_receipts.proofs.Beginnings.{begin_stands, longest_of, nothing_offsets}
use Rattle.lane_receipts.proofs.held.receive_by.Goals as goal

pub returns-in_err-offsets-clause-comes : goal.returns-in_err-offsets-clause-comes
returns-in_err-offsets-clause-comes g c setting is =
    let r = c.from_residual in
    let p = err_from_is_err_and r.result r.ensures.1 in
    let value = plan_value c.args.plan.now in
    let lanes = map vec_bytes c.args.lanes.now in
    rw (p.1, p.2) (unopened_held (held_beginning value setting lanes (g.S.Store.files c.args.store.now)) value.settings lanes stop.OutOfMemory _ (none_opened value setting lanes _ (as_many_lanes value c.args.lanes.now c.requires.lanes)))

pub open_held-requires-clause-few : goal.open_held-requires-clause-few
open_held-requires-clause-few g c =
    let stands = begin_stands c.args.plan.now c.args.receiver.now c.requires.unfed in
    stands.front.link.lanes.1

pub returns-in_err-receipt-clause-comes : goal.returns-in_err-receipt-clause-comes
returns-in_err-receipt-clause-comes g c setting is =
    let r = c.from_residual-in_err-receipt in
    let p = err_from_is_err_and r.result r.ensures.1 in
    let value = plan_value c.args.plan.now in
    let lanes = map vec_bytes c.args.lanes.now in
    rw (p.1, p.2) (unopened_held (held_beginning value setting lanes (g.S.Store.files c.args.store.now)) value.settings lanes c.in_err-receipt.field-0.0 _ (c.in_err-receipt.ensures.opens setting is))

pub take_held-requires-clause-few : goal.take_held-requires-clause-few
take_held-requires-clause-few g c =
    let stands = begin_stands c.args.plan.now c.args.receiver.now c.requires.unfed in
    let few = stands.front.link.lanes.1 in
    let len : length c.deref_mut.result.now ≡ length c.args.lanes.now = ap (λ (os : List (Option ℕ)). length os) c.deref_mut.ensures.value ∙ c.in_ok-offsets.ensures.count in
    let lanes = c.requires.lanes in
    omega (arith, few, len, lanes)

pub take_held-requires-clause-taking : goal.take_held-requires-clause-taking
take_held-requires-clause-taking g c =
    let plan = c.args.plan.now in
    let value = plan_value plan in
    let b : Beginning = held_beginning value (the_setting value) (map vec_bytes c.args.lanes.now) (g.S.Store.files c.args.store.now) in
    let stands = begin_stands plan c.args.receiver.now c.requires.unfed in
    let opened = c.in_ok-receipt.ensures.opens (the_setting value) (is_the_setting value) in
    let taking : IsTaking b value.settings (nothing_fed plan.link.lanes) [] c.args.receiver.now c.in_ok-receipt.receipt (g.S.Store.files c.open_held.new.store) = record { stands = stands; receipt = opened; fits = longest_of value.settings stands.front.link } in
    let filled : c.deref_mut.result.now ≡ replicate plan.link.lanes (Some 0) = c.deref_mut.ensures.value ∙ c.in_ok-offsets.ensures.nothing ∙ ap (λ n. replicate n (Some 0)) c.requires.lanes in
    (b, value.settings, nothing_fed plan.link.lanes, [], taking, filled ∙ nothing_offsets plan.link.lanes, begins_so c.args.lanes.now plan.link.lanes c.requires.lanes)

pub take_held-requires-clause-told : goal.take_held-requires-clause-told
take_held-requires-clause-told g c asks =
    let link = c.args.plan.now.link in
    (link, nothing_fed link.lanes, told_fresh g.O.Observer.keeps g.O.Observer.saw c.args.observer.now c.args.receiver.now link c.requires.fresh (c.requires.told asks))

pub returns-in_err-take_held-clause-comes : goal.returns-in_err-take_held-clause-comes
returns-in_err-take_held-clause-comes g c setting is =
    let plan = c.args.plan.now in
    let value = plan_value plan in
    let lanes = map vec_bytes c.args.lanes.now in
    let b : Beginning = held_beginning value (the_setting value) lanes (g.S.Store.files c.args.store.now) in
    let stands = begin_stands plan c.args.receiver.now c.requires.unfed in
    let opened = c.in_ok-receipt.ensures.opens (the_setting value) (is_the_setting value) in
    let taking : IsTaking b value.settings (nothing_fed plan.link.lanes) [] c.args.receiver.now c.in_ok-receipt.receipt (g.S.Store.files c.open_held.new.store) = record { stands = stands; receipt = opened; fits = longest_of value.settings stands.front.link } in
    let filled : c.deref_mut.result.now ≡ replicate plan.link.lanes (Some 0) = c.deref_mut.ensures.value ∙ c.in_ok-offsets.ensures.nothing ∙ ap (λ n. replicate n (Some 0)) c.requires.lanes in
    let r = c.from_residual-in_err-take_held in
    let p = err_from_is_err_and r.result r.ensures.1 in
    rw (p.1, p.2) (subst (λ (x : Setting). HeldStopped (held_beginning value x lanes (g.S.Store.files c.args.store.now)) value.settings lanes c.in_err-take_held.field-0.0 (g.S.Store.files c.take_held.new.store)) (plan_setting value (the_setting value) setting (is_the_setting value) is)
    (c.in_err-take_held.ensures.holds b value.settings (nothing_fed plan.link.lanes) [] taking (filled ∙ nothing_offsets plan.link.lanes) (begins_so c.args.lanes.now plan.link.lanes c.requires.lanes)))

pub lane_lines-requires : goal.lane_lines-requires
lane_lines-requires g c =
    let plan = c.args.plan.now in
    let value = plan_value plan in
    let lanes = map vec_bytes c.args.lanes.now in
    let b : Beginning = held_beginning value (the_setting value) lanes (g.S.Store.files c.args.store.now) in
    let stands = begin_stands plan c.args.receiver.now c.requires.unfed in
    let opened = c.in_ok-receipt.ensures.opens (the_setting value) (is_the_setting value) in
    let taking : IsTaking b value.settings (nothing_fed plan.link.lanes) [] c.args.receiver.now c.in_ok-receipt.receipt (g.S.Store.files c.open_held.new.store) = record { stands = stands; receipt = opened; fits = longest_of value.settings stands.front.link } in
    let filled : c.deref_mut.result.now ≡ replicate plan.link.lanes (Some 0) = c.deref_mut.ensures.value ∙ c.in_ok-offsets.ensures.nothing ∙ ap (λ n. replicate n (Some 0)) c.requires.lanes in
    let all : AllHeld b value.settings lanes c.take_held.new.receiver c.take_held.new.receipt (g.S.Store.files c.take_held.new.store) =
    c.in_ok-take_held.ensures.holds b value.settings (nothing_fed plan.link.lanes) [] taking (filled ∙ nothing_offsets plan.link.lanes) (begins_so c.args.lanes.now plan.link.lanes c.requires.lanes) in
    let held = lanes_of_held b value.settings lanes c.take_held.new.receiver c.take_held.new.receipt _ all in
    let many = c.lanes.ensures in
    omega (arith, held, many)

pub returns-in_err-lines-clause-comes : goal.returns-in_err-lines-clause-comes
returns-in_err-lines-clause-comes g c setting is =
    let plan = c.args.plan.now in
    let value = plan_value plan in
    let lanes = map vec_bytes c.args.lanes.now in
    let b : Beginning = held_beginning value (the_setting value) lanes (g.S.Store.files c.args.store.now) in
    let stands = begin_stands plan c.args.receiver.now c.requires.unfed in
    let opened = c.in_ok-receipt.ensures.opens (the_setting value) (is_the_setting value) in
    let taking : IsTaking b value.settings (nothing_fed plan.link.lanes) [] c.args.receiver.now c.in_ok-receipt.receipt (g.S.Store.files c.open_held.new.store) = record { stands = stands; receipt = opened; fits = longest_of value.settings stands.front.link } in
    let filled : c.deref_mut.result.now ≡ replicate plan.link.lanes (Some 0) = c.deref_mut.ensures.value ∙ c.in_ok-offsets.ensures.nothing ∙ ap (λ n. replicate n (Some 0)) c.requires.lanes in
    let all : AllHeld b value.settings lanes c.take_held.new.receiver c.take_held.new.receipt (g.S.Store.files c.take_held.new.store) =
    c.in_ok-take_held.ensures.holds b value.settings (nothing_fed plan.link.lanes) [] taking (filled ∙ nothing_offsets plan.link.lanes) (begins_so c.args.lanes.now plan.link.lanes c.requires.lanes) in
    let r = c.from_residual-in_err-lines in
    let p = err_from_is_err_and r.result r.ensures.1 in
    rw (p.1, p.2) (subst (λ (x : Setting). HeldStopped (held_beginning value x lanes (g.S.Store.files c.args.store.now)) value.settings lanes stop.OutOfMemory (g.S.Store.files c.take_held.new.store)) (plan_setting value (the_setting value) setting (is_the_setting value) is)
    (memory_held b value.settings lanes c.take_held.new.receiver c.take_held.new.receipt _ all))

pub returns-in_err-lines-clause-cause : goal.returns-in_err-lines-clause-cause
returns-in_err-lines-clause-cause g c =
    let r = c.from_residual-in_err-lines in
    let p = err_from_is_err_and r.result r.ensures.1 in
    rw (p.1, p.2) (c.in_ok-take_held.ensures.cause ∙ c.in_ok-receipt.ensures.cause)

pub returns-clause-comes : goal.returns-clause-comes
returns-clause-comes g c setting is =
    let plan = c.args.plan.now in
    let value = plan_value plan in
    let lanes = map vec_bytes c.args.lanes.now in
    let b : Beginning = held_beginning value (the_setting value) lanes (g.S.Store.files c.args.store.now) in
    let stands = begin_stands plan c.args.receiver.now c.requires.unfed in
    let opened = c.in_ok-receipt.ensures.opens (the_setting value) (is_the_setting value) in
    let taking : IsTaking b value.settings (nothing_fed plan.link.lanes) [] c.args.receiver.now c.in_ok-receipt.receipt (g.S.Store.files c.open_held.new.store) = record { stands = stands; receipt = opened; fits = longest_of value.settings stands.front.link } in
    let filled : c.deref_mut.result.now ≡ replicate plan.link.lanes (Some 0) = c.deref_mut.ensures.value ∙ c.in_ok-offsets.ensures.nothing ∙ ap (λ n. replicate n (Some 0)) c.requires.lanes in
    let all : AllHeld b value.settings lanes c.take_held.new.receiver c.take_held.new.receipt (g.S.Store.files c.take_held.new.store) =
    c.in_ok-take_held.ensures.holds b value.settings (nothing_fed plan.link.lanes) [] taking (filled ∙ nothing_offsets plan.link.lanes) (begins_so c.args.lanes.now plan.link.lanes c.requires.lanes) in
    let (reports, counted, text, each) = c.in_ok-lines.ensures in
    subst (λ (x : Setting). HeldCame (held_beginning value x lanes (g.S.Store.files c.args.store.now)) value.settings lanes c.take_held.new.receipt c.in_ok-lines.lines.items (g.S.Store.files c.take_held.new.store)) (plan_setting value (the_setting value) setting (is_the_setting value) is)
    (held_came b value.settings lanes c.take_held.new.receiver c.take_held.new.receipt _ all reports (counted ∙ c.lanes.ensures) (λ given_setting fed given st. each value.settings given_setting fed given st) c.in_ok-lines.lines.items text)

pub returns-clause-observes : goal.returns-clause-observes
returns-clause-observes g c kept seen =
    let plan = c.args.plan.now in
    let value = plan_value plan in
    let lanes = map vec_bytes c.args.lanes.now in
    let b : Beginning = held_beginning value (the_setting value) lanes (g.S.Store.files c.args.store.now) in
    let stands = begin_stands plan c.args.receiver.now c.requires.unfed in
    let opened = c.in_ok-receipt.ensures.opens (the_setting value) (is_the_setting value) in
    let taking : IsTaking b value.settings (nothing_fed plan.link.lanes) [] c.args.receiver.now c.in_ok-receipt.receipt (g.S.Store.files c.open_held.new.store) = record { stands = stands; receipt = opened; fits = longest_of value.settings stands.front.link } in
    let filled : c.deref_mut.result.now ≡ replicate plan.link.lanes (Some 0) = c.deref_mut.ensures.value ∙ c.in_ok-offsets.ensures.nothing ∙ ap (λ n. replicate n (Some 0)) c.requires.lanes in
    let has_seen = seen_fresh g.O.Observer.keeps g.O.Observer.saw c.args.observer.now c.args.receiver.now plan.link lanes c.requires.fresh kept seen in
    (c.take_held.new.receiver.front, c.in_ok-take_held.ensures.observes b value.settings (nothing_fed plan.link.lanes) [] taking (filled ∙ nothing_offsets plan.link.lanes) lanes refl (begins_so c.args.lanes.now plan.link.lanes c.requires.lanes) has_seen)

use Rattle.std.proofs.Common.{◌≡◌, ◌∙◌, ◌≤◌, refl, subst, ap, arith, length, Bool, Err, map}
use Rattle.std.specs.Prelude.{is_some}
use Rattle.link_commands.proofs.LowSlots.{carried_low}
use Rattle.std.proofs.lemmas.Result.{err_from_is_err_and}
use Rattle.link_plan.specs.Views.{plan_value}
use Rattle.run_stops.specs.declared.stop.Stop.TheVariants as stop
use Rattle.run_shell.specs.Writing.{Writes}
use Rattle.receipts.specs.Receipts.{closed_outcome, names_of}
use Rattle.lane_receipts.specs.Held.{held_beginning, vec_bytes}
use Rattle.receipts.proofs.Making.{memory_writes}
use Rattle.receipts.proofs.Settings.{is_the_setting, the_setting}
use Rattle.link_commands.specs.Values.{planned_value}
use Rattle.link_commands.proofs.Writing.{text_of, writes_link}
use Rattle.link_commands.proofs.link.write_received.Goals as goal

pub link_text-requires-clause-low : goal.link_text-requires-clause-low
link_text-requires-clause-low g c =
    let value = plan_value c.args.run.now.plan.now in
    let received = c.requires.received.2 in
    let came = received.came (the_setting value) (is_the_setting value) in
    carried_low (planned_value c.args.run.now.plan.now c.requires.received.0 c.args.run.now.schedule.now) c.args.run.now.carried.now received.carried came.link

pub link_text-requires-clause-skews : goal.link_text-requires-clause-skews
link_text-requires-clause-skews g c =
    let value = plan_value c.args.run.now.plan.now in
    let came = c.requires.received.2.came (the_setting value) (is_the_setting value) in
    let some : 1 ≤ value.settings.lanes = came.link.lanes.0 in
    let many : length c.args.run.now.schedule.now.skews.items ≡ value.settings.lanes = c.requires.skews in
    omega (arith, some, many)

pub close-requires-clause-receipt : goal.close-requires-clause-receipt
close-requires-clause-receipt g c =
    let value = plan_value c.args.run.now.plan.now in
    let came = c.requires.received.2.came (the_setting value) (is_the_setting value) in
    (_, came.events, came.came)

pub returns-in_err-text-clause-writes : goal.returns-in_err-text-clause-writes
returns-in_err-text-clause-writes g c inputs was is counted =
    let value = plan_value c.args.run.now.plan.now in
    let i = planned_value c.args.run.now.plan.now inputs c.args.run.now.schedule.now in
    let carried = c.args.run.now.carried.now in
    let counts = c.args.counts.now in
    let came = is.came (the_setting value) (is_the_setting value) in
    let r = c.from_residual in
    let p = err_from_is_err_and r.result r.ensures.1 in
    rw (p.1, p.2) (writes_link i carried is.carried was (the_setting value) (is_the_setting value) c.args.received.receipt c.args.received.lines.items _ came counts (counted is.carried) (Err stop.OutOfMemory) _ _ refl
    (memory_writes (held_beginning value (the_setting value) (map vec_bytes carried.lanes.items) was) came.events (is_some carried.held) (text_of i carried is.carried was (the_setting value) (is_the_setting value) counts c.args.received.lines.items came.events) c.args.received.receipt _ came.came))

pub returns-clause-writes : goal.returns-clause-writes
returns-clause-writes g c inputs was is counted =
    let value = plan_value c.args.run.now.plan.now in
    let i = planned_value c.args.run.now.plan.now inputs c.args.run.now.schedule.now in
    let carried = c.args.run.now.carried.now in
    let counts = c.args.counts.now in
    let b = held_beginning value (the_setting value) (map vec_bytes carried.lanes.items) was in
    let came = is.came (the_setting value) (is_the_setting value) in
    writes_link i carried is.carried was (the_setting value) (is_the_setting value) c.args.received.receipt c.args.received.lines.items _ came counts (counted is.carried) c.close.result _ c.in_ok-text.text.items
    (c.in_ok-text.ensures b came.events _ came.came refl
    ∙ ap (λ ls. text_of i carried is.carried was (the_setting value) (is_the_setting value) counts ls came.events) c.deref.ensures.value)
    (subst (λ (h : Bool). Writes (λ o. o ≡ closed_outcome b came.events h c.in_ok-text.text.items) (names_of b) c.close.result was (g.S.Store.files c.close.new.store)) c.is_some.ensures (c.close.ensures.writes b came.events came.came))

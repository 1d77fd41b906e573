use Rattle.std.proofs.Common.{subst, map}
use Rattle.std.proofs.lemmas.Result.{err_from_is_err_and}
use Rattle.link_plan.specs.Views.{plan_value}
use Rattle.lane_receipts.specs.Held.{HeldStopped, held_beginning, vec_bytes}
use Rattle.receipts.proofs.Settings.{is_the_setting, the_setting}
use Rattle.link_commands.specs.Values.{planned_value}
use Rattle.link_commands.proofs.Writing.{came_of, kept_none, stopped_link}
use Rattle.link_commands.proofs.link.write_clean.Goals as goal

pub returns-in_err-received-clause-writes : goal.returns-in_err-received-clause-writes
returns-in_err-received-clause-writes g c inputs is =
    let value = plan_value c.args.run.now.plan.now in
    let r = c.from_residual in
    let p = err_from_is_err_and r.result r.ensures.1 in
    rw (p.1, p.2) (stopped_link (planned_value c.args.run.now.plan.now inputs c.args.run.now.schedule.now) c.args.run.now.carried.now is (g.S.Store.files c.args.store.now) (the_setting value) (is_the_setting value) c.in_err-received.field-0.0 _
    (subst (λ lanes. HeldStopped (held_beginning value (the_setting value) (map vec_bytes lanes) (g.S.Store.files c.args.store.now)) value.settings (map vec_bytes lanes) c.in_err-received.field-0.0 (g.S.Store.files c.receive_held.new.store)) c.deref.ensures.value
    (c.in_err-received.ensures.comes (the_setting value) (is_the_setting value))))

pub write_received-requires-clause-received : goal.write_received-requires-clause-received
write_received-requires-clause-received g c =
    let value = plan_value c.args.run.now.plan.now in
    let was = g.S.Store.files c.args.store.now in
    let (inputs, is) = c.requires.carried in (
      inputs,
      was,
      record { carried = is; came = λ setting is_setting. came_of c.deref.result.now c.args.run.now.carried.now.lanes.items c.deref.ensures.value value setting was c.in_ok-received.received.receipt c.in_ok-received.received.lines.items _ (c.in_ok-received.ensures.comes setting is_setting) },
    )

pub returns-clause-writes : goal.returns-clause-writes
returns-clause-writes g c inputs is =
    let value = plan_value c.args.run.now.plan.now in
    let was = g.S.Store.files c.args.store.now in
    let i = planned_value c.args.run.now.plan.now inputs c.args.run.now.schedule.now in
    let carried = c.args.run.now.carried.now in
    c.write_received.ensures.writes inputs was
    (record { carried = is; came = λ setting is_setting. came_of c.deref.result.now carried.lanes.items c.deref.ensures.value value setting was c.in_ok-received.received.receipt c.in_ok-received.received.lines.items _ (c.in_ok-received.ensures.comes setting is_setting) })
    (λ here. kept_none i here.stream (map vec_bytes carried.lanes.items) carried.words here.kept c.requires.none)

use Rattle.std.proofs.Common.{◌≡◌, ◌∙◌, ◌%◌, ap, sym, subst, length, List, map}
use Rattle.lk_base.specs.Link.{group_of}
use Rattle.lk_base.specs.declared.word.Word.{Word}
use Rattle.tx_end.proofs.Shapes.{whole_groups}
use Rattle.run_stops.specs.declared.stop.Stop.TheVariants as stop
use Rattle.run_shell.proofs.Writing.{none_writes}
use Rattle.std.proofs.lemmas.Result.{err_from_is_err_and}
use Rattle.link_plan.specs.Views.{plan_value}
use Rattle.lane_receipts.specs.Held.{HeldStopped, held_beginning, vec_bytes}
use Rattle.receipts.proofs.Settings.{is_the_setting, the_setting}
use Rattle.link_commands.specs.Values.{planned_value}
use Rattle.link_commands.proofs.Writing.{came_of, counted_here, kept_words, stopped_link}
use Rattle.link_commands.proofs.link.write_counted.Goals as goal

pub new-requires-clause-skews : goal.new-requires-clause-skews
new-requires-clause-skews g c = ap length c.as_slice.ensures.value ∙ c.requires.skews

pub new-requires-clause-whole : goal.new-requires-clause-whole
new-requires-clause-whole g c =
    let (inputs, is) = c.requires.carried in
    let i = planned_value c.args.run.now.plan.now inputs c.args.run.now.schedule.now in
    let carried = c.args.run.now.carried.now in
    let group = group_of c.args.run.now.plan.now.link in
    let same = kept_words i is.stream (map vec_bytes carried.lanes.items) carried.words c.args.words.now is.kept c.requires.words in
    subst (λ (ws : List Word). length ws % group ≡ 0) (sym same) (whole_groups is.source is.stream group is.is_stream is.is_source.shape.group)

pub returns-in_err-counter-clause-writes : goal.returns-in_err-counter-clause-writes
returns-in_err-counter-clause-writes g c inputs is =
    let p = err_from_is_err_and c.from_residual.result c.from_residual.ensures.1 in
    rw (p.1, p.2) (none_writes _ _ stop.OutOfMemory _ tt)

pub returns-in_err-received-clause-writes : goal.returns-in_err-received-clause-writes
returns-in_err-received-clause-writes g c inputs is =
    let value = plan_value c.args.run.now.plan.now in
    let r = c.from_residual-in_err-received in
    let p = err_from_is_err_and r.result r.ensures.1 in
    rw (p.1, p.2) (stopped_link (planned_value c.args.run.now.plan.now inputs c.args.run.now.schedule.now) c.args.run.now.carried.now is (g.S.Store.files c.args.store.now) (the_setting value) (is_the_setting value) c.in_err-received.field-0.0 _
    (subst (λ lanes. HeldStopped (held_beginning value (the_setting value) (map vec_bytes lanes) (g.S.Store.files c.args.store.now)) value.settings (map vec_bytes lanes) c.in_err-received.field-0.0 (g.S.Store.files c.receive_held.new.store)) c.deref.ensures.value
    (c.in_err-received.ensures.comes (the_setting value) (is_the_setting value))))

pub counts-counts-requires : goal.counts-counts-requires
counts-counts-requires g c =
    let made = c.in_ok-counter.ensures in
    let lanes = map vec_bytes c.deref.result.now in
    let all = c.in_ok-received.ensures.observes made.counts (made.counted lanes) in
    (all.0, c.args.run.now.plan.now.link, lanes, all.1)

pub write_received-requires-clause-received : goal.write_received-requires-clause-received
write_received-requires-clause-received g c =
    let value = plan_value c.args.run.now.plan.now in
    let was = g.S.Store.files c.args.store.now in
    let (inputs, is) = c.requires.carried in (
      inputs,
      was,
      record { carried = is; came = λ setting is_setting. came_of c.deref.result.now c.args.run.now.carried.now.lanes.items c.deref.ensures.value value setting was c.in_ok-received.received.receipt c.in_ok-received.received.lines.items _ (c.in_ok-received.ensures.comes setting is_setting) },
    )

pub returns-clause-writes : goal.returns-clause-writes
returns-clause-writes g c inputs is =
    let value = plan_value c.args.run.now.plan.now in
    let was = g.S.Store.files c.args.store.now in
    let i = planned_value c.args.run.now.plan.now inputs c.args.run.now.schedule.now in
    let carried = c.args.run.now.carried.now in
    c.write_received.ensures.writes inputs was
    (record { carried = is; came = λ setting is_setting. came_of c.deref.result.now carried.lanes.items c.deref.ensures.value value setting was c.in_ok-received.received.receipt c.in_ok-received.received.lines.items _ (c.in_ok-received.ensures.comes setting is_setting) })
    (let made = c.in_ok-counter.ensures in
    let lanes = map vec_bytes c.deref.result.now in
    let all = c.in_ok-received.ensures.observes made.counts (made.counted lanes) in
    counted_here i carried _ c.deref.result.now c.as_slice.result.now c.args.words.now c.counts-counts.result c.deref.ensures.value c.requires.words (c.receive_held.ensures.fixed ∙ made.given) c.as_slice.ensures.value
    (c.counts-counts.ensures all.0 c.args.run.now.plan.now.link lanes all.1))

use Rattle.std.proofs.Common.{◌≡◌, ◌∙◌, refl, sym, ap, subst, ℕ, length, map, replicate, string_bytes, Some, Err}
use Rattle.std.proofs.lemmas.Result.{err_from_is_err_and}
use Rattle.link_plan.specs.Listing.{channels_in_order, numbers_of}
use Rattle.link_plan.specs.Views.{plan_value}
use Rattle.rx_front.specs.Calls.{nothing_fed}
use Rattle.run_stops.specs.Stops.{StopCount}
use Rattle.receipts.proofs.Settings.{is_the_setting, order_rises, plan_order, the_setting}
use Rattle.lane_receipts.proofs.Beginnings.{begin_stands, names_count}
use Rattle.receive_commands.proofs.ReceiveRun.{beginning, begins, begun, broken, no_output, unmade, unopened}
use Rattle.receive_commands.proofs.Receives.{received_fills, written_leaves}
use Rattle.receive_commands.proofs.receive.receive_open.Goals as goal

pub open-requires-clause-in_order : goal.open-requires-clause-in_order
open-requires-clause-in_order g c =
    order_rises _ c.deref.result.now (c.deref.ensures.value ∙ c.in_ok-channels.ensures)

pub returns-in_err-channels-clause-fills : goal.returns-in_err-channels-clause-fills
returns-in_err-channels-clause-fills g c =
    let p = err_from_is_err_and c.from_residual.result c.from_residual.ensures.1 in
    rw (p.1, p.2) (unmade c.args.read.now.plan _)

pub returns-in_err-receipt-clause-fills : goal.returns-in_err-receipt-clause-fills
returns-in_err-receipt-clause-fills g c =
    let plan = c.args.read.now.plan in
    let was = g.S.Store.files c.args.store.now in
    let lanes = c.args.lanes.now.lanes in
    let named = ap (map string_bytes) c.requires.opened ∙ c.requires.names in
    let order = plan_order plan c.deref.result.now (c.deref.ensures.value ∙ c.in_ok-channels.ensures ∙ ap (λ cs. channels_in_order (numbers_of cs)) c.as_slice.ensures.value) in
    let p = err_from_is_err_and c.from_residual-in_err-receipt.result c.from_residual-in_err-receipt.ensures.1 in
    rw (p.1, p.2) (unopened plan c.as_str.result.now was c.as_str.ensures.value (map string_bytes lanes.names.now) named lanes.buffers.items c.requires.buffers.many c.requires.fresh c.in_err-receipt.field-0.0 _ (c.in_err-receipt.ensures.opens (the_setting (plan_value plan)) (sym order))).fills

pub returns-in_err-receipt-clause-others : goal.returns-in_err-receipt-clause-others
returns-in_err-receipt-clause-others g c =
    let plan = c.args.read.now.plan in
    let was = g.S.Store.files c.args.store.now in
    let lanes = c.args.lanes.now.lanes in
    let named = ap (map string_bytes) c.requires.opened ∙ c.requires.names in
    let order = plan_order plan c.deref.result.now (c.deref.ensures.value ∙ c.in_ok-channels.ensures ∙ ap (λ cs. channels_in_order (numbers_of cs)) c.as_slice.ensures.value) in
    (unopened plan c.as_str.result.now was c.as_str.ensures.value (map string_bytes lanes.names.now) named lanes.buffers.items c.requires.buffers.many c.requires.fresh c.in_err-receipt.field-0.0 _ (c.in_err-receipt.ensures.opens (the_setting (plan_value plan)) (sym order))).others

pub take_all-requires-clause-names : goal.take_all-requires-clause-names
take_all-requires-clause-names g c =
    let plan = c.args.read.now.plan in
    let count : length c.args.read.now.names.items ≡ plan.link.lanes = names_count string_bytes c.args.read.now.names.items (plan_value plan).out plan.link.lanes c.requires.names in
    ap length c.requires.opened ∙ count

pub take_all-requires-clause-offsets : goal.take_all-requires-clause-offsets
take_all-requires-clause-offsets g c =
    let plan = c.args.read.now.plan in
    let count : length c.args.read.now.names.items ≡ plan.link.lanes = names_count string_bytes c.args.read.now.names.items (plan_value plan).out plan.link.lanes c.requires.names in
    c.requires.offsets ∙ ap (λ n. replicate n (Some 0)) count

pub take_all-requires-clause-apart : goal.take_all-requires-clause-apart
take_all-requires-clause-apart g c =
    let plan = c.args.read.now.plan in
    let was = g.S.Store.files c.args.store.now in
    let lanes = c.args.lanes.now.lanes in
    let named = ap (map string_bytes) c.requires.opened ∙ c.requires.names in
    let order = plan_order plan c.deref.result.now (c.deref.ensures.value ∙ c.in_ok-channels.ensures ∙ ap (λ cs. channels_in_order (numbers_of cs)) c.as_slice.ensures.value) in
    let stands = begin_stands plan c.args.lanes.now.receiver c.requires.receiver in
    let opened = c.in_ok-receipt.ensures.opens (the_setting (plan_value plan)) (sym order) in
    no_output plan c.as_str.result.now was c.as_str.ensures.value (map string_bytes lanes.names.now) named lanes.buffers.items c.requires.buffers.many c.requires.fresh c.args.lanes.now.receiver stands c.in_ok-receipt.receipt _ opened

pub take_all-requires-clause-taking : goal.take_all-requires-clause-taking
take_all-requires-clause-taking g c =
    let plan = c.args.read.now.plan in
    let was = g.S.Store.files c.args.store.now in
    let lanes = c.args.lanes.now.lanes in
    let named = ap (map string_bytes) c.requires.opened ∙ c.requires.names in
    let order = plan_order plan c.deref.result.now (c.deref.ensures.value ∙ c.in_ok-channels.ensures ∙ ap (λ cs. channels_in_order (numbers_of cs)) c.as_slice.ensures.value) in
    let stands = begin_stands plan c.args.lanes.now.receiver c.requires.receiver in
    let opened = c.in_ok-receipt.ensures.opens (the_setting (plan_value plan)) (sym order) in
    let at = begun plan c.as_str.result.now was c.as_str.ensures.value (map string_bytes lanes.names.now) named lanes.buffers.items c.requires.buffers.many c.requires.fresh c.args.lanes.now.receiver stands c.in_ok-receipt.receipt _ opened in
    (beginning plan c.as_str.result.now was, at)

pub returns-in_err-text-clause-cause : goal.returns-in_err-text-clause-cause
returns-in_err-text-clause-cause g c =
    let p = err_from_is_err_and c.from_residual-in_err-text.result c.from_residual-in_err-text.ensures.1 in
    rw (p.1, p.2) (subst (λ (n : ℕ). StopCount {T = Unit {0}} (Err c.in_err-text.field-0.0) n (g.S.Store.faults c.take_all.new.store)) c.in_ok-receipt.ensures.cause c.in_err-text.ensures.cause)

pub returns-in_err-text-clause-fills : goal.returns-in_err-text-clause-fills
returns-in_err-text-clause-fills g c =
    let plan = c.args.read.now.plan in
    let was = g.S.Store.files c.args.store.now in
    let lanes = c.args.lanes.now.lanes in
    let named = ap (map string_bytes) c.requires.opened ∙ c.requires.names in
    let order = plan_order plan c.deref.result.now (c.deref.ensures.value ∙ c.in_ok-channels.ensures ∙ ap (λ cs. channels_in_order (numbers_of cs)) c.as_slice.ensures.value) in
    let stands = begin_stands plan c.args.lanes.now.receiver c.requires.receiver in
    let opened = c.in_ok-receipt.ensures.opens (the_setting (plan_value plan)) (sym order) in
    let at = begun plan c.as_str.result.now was c.as_str.ensures.value (map string_bytes lanes.names.now) named lanes.buffers.items c.requires.buffers.many c.requires.fresh c.args.lanes.now.receiver stands c.in_ok-receipt.receipt _ opened in
    let p = err_from_is_err_and c.from_residual-in_err-text.result c.from_residual-in_err-text.ensures.1 in
    rw (p.1, p.2) (broken plan c.as_str.result.now was c.as_str.ensures.value (map string_bytes lanes.names.now) named lanes.buffers.items c.requires.buffers.many c.requires.fresh c.in_err-text.field-0.0 _ (c.in_err-text.ensures.takes (beginning plan c.as_str.result.now was) at)).fills

pub returns-in_err-text-clause-others : goal.returns-in_err-text-clause-others
returns-in_err-text-clause-others g c =
    let plan = c.args.read.now.plan in
    let was = g.S.Store.files c.args.store.now in
    let lanes = c.args.lanes.now.lanes in
    let named = ap (map string_bytes) c.requires.opened ∙ c.requires.names in
    let order = plan_order plan c.deref.result.now (c.deref.ensures.value ∙ c.in_ok-channels.ensures ∙ ap (λ cs. channels_in_order (numbers_of cs)) c.as_slice.ensures.value) in
    let stands = begin_stands plan c.args.lanes.now.receiver c.requires.receiver in
    let opened = c.in_ok-receipt.ensures.opens (the_setting (plan_value plan)) (sym order) in
    let at = begun plan c.as_str.result.now was c.as_str.ensures.value (map string_bytes lanes.names.now) named lanes.buffers.items c.requires.buffers.many c.requires.fresh c.args.lanes.now.receiver stands c.in_ok-receipt.receipt _ opened in
    (broken plan c.as_str.result.now was c.as_str.ensures.value (map string_bytes lanes.names.now) named lanes.buffers.items c.requires.buffers.many c.requires.fresh c.in_err-text.field-0.0 _ (c.in_err-text.ensures.takes (beginning plan c.as_str.result.now was) at)).others

pub finish-requires-clause-receipt : goal.finish-requires-clause-receipt
finish-requires-clause-receipt g c =
    let plan = c.args.read.now.plan in
    let was = g.S.Store.files c.args.store.now in
    let lanes = c.args.lanes.now.lanes in
    let named = ap (map string_bytes) c.requires.opened ∙ c.requires.names in
    let order = plan_order plan c.deref.result.now (c.deref.ensures.value ∙ c.in_ok-channels.ensures ∙ ap (λ cs. channels_in_order (numbers_of cs)) c.as_slice.ensures.value) in
    let stands = begin_stands plan c.args.lanes.now.receiver c.requires.receiver in
    let opened = c.in_ok-receipt.ensures.opens (the_setting (plan_value plan)) (sym order) in
    let at = begun plan c.as_str.result.now was c.as_str.ensures.value (map string_bytes lanes.names.now) named lanes.buffers.items c.requires.buffers.many c.requires.fresh c.args.lanes.now.receiver stands c.in_ok-receipt.receipt _ opened in
    let all = c.in_ok-text.ensures.takes (beginning plan c.as_str.result.now was) at in
    (beginning plan c.as_str.result.now was, all.given, all.drained.taking.receipt)

pub returns-clause-others : goal.returns-clause-others
returns-clause-others g c =
    let plan = c.args.read.now.plan in
    let was = g.S.Store.files c.args.store.now in
    let lanes = c.args.lanes.now.lanes in
    let named = ap (map string_bytes) c.requires.opened ∙ c.requires.names in
    let order = plan_order plan c.deref.result.now (c.deref.ensures.value ∙ c.in_ok-channels.ensures ∙ ap (λ cs. channels_in_order (numbers_of cs)) c.as_slice.ensures.value) in
    let stands = begin_stands plan c.args.lanes.now.receiver c.requires.receiver in
    let opened = c.in_ok-receipt.ensures.opens (the_setting (plan_value plan)) (sym order) in
    let at = begun plan c.as_str.result.now was c.as_str.ensures.value (map string_bytes lanes.names.now) named lanes.buffers.items c.requires.buffers.many c.requires.fresh c.args.lanes.now.receiver stands c.in_ok-receipt.receipt _ opened in
    let all = c.in_ok-text.ensures.takes (beginning plan c.as_str.result.now was) at in
    let b = beginning plan c.as_str.result.now was in
    written_leaves (plan_value plan) b (is_the_setting (plan_value plan)) refl c.as_str.ensures.value refl _ c.finish.result _ (c.finish.ensures.writes b all.given all.drained.taking.receipt)

pub returns-clause-fills : goal.returns-clause-fills
returns-clause-fills g c =
    let plan = c.args.read.now.plan in
    let was = g.S.Store.files c.args.store.now in
    let lanes = c.args.lanes.now.lanes in
    let named = ap (map string_bytes) c.requires.opened ∙ c.requires.names in
    let order = plan_order plan c.deref.result.now (c.deref.ensures.value ∙ c.in_ok-channels.ensures ∙ ap (λ cs. channels_in_order (numbers_of cs)) c.as_slice.ensures.value) in
    let stands = begin_stands plan c.args.lanes.now.receiver c.requires.receiver in
    let opened = c.in_ok-receipt.ensures.opens (the_setting (plan_value plan)) (sym order) in
    let at = begun plan c.as_str.result.now was c.as_str.ensures.value (map string_bytes lanes.names.now) named lanes.buffers.items c.requires.buffers.many c.requires.fresh c.args.lanes.now.receiver stands c.in_ok-receipt.receipt _ opened in
    let all = c.in_ok-text.ensures.takes (beginning plan c.as_str.result.now was) at in
    let b = beginning plan c.as_str.result.now was in
    let (reports, counted, text, each) = c.in_ok-text.ensures.lines in
    received_fills (plan_value plan) b (is_the_setting (plan_value plan)) refl c.as_str.ensures.value refl (nothing_fed plan.link.lanes) _ (begins plan c.as_str.result.now was c.as_str.ensures.value (map string_bytes lanes.names.now) named lanes.buffers.items c.requires.buffers.many c.requires.fresh) (map string_bytes lanes.names.now) named
    c.take_all.new.self.receiver c.take_all.new.receipt _ all reports counted (λ setting fed given stands lane report e. each (plan_value plan).settings setting fed given stands lane report e)
    c.in_ok-text.text.items c.finish.result _ text (c.finish.ensures.writes b all.given all.drained.taking.receipt)

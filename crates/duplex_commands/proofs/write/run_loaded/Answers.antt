use Rattle.std.proofs.Common.{◌≤◌, sym, subst, refl, length, List, [], ℕ}
use Rattle.std.proofs.lemmas.Result.{err_from_is_err_and}
use Rattle.receipts.proofs.Settings.{order_rises, plan_order, the_setting}
use Rattle.plan_inputs.proofs.PlanChannels.{few_in_order}
use Rattle.duplex_commands.specs.Captures.{AreKept, IsBroken}
use Rattle.duplex_commands.specs.Run.{run_settings}
use Rattle.duplex_commands.specs.Values.{duplex_reading}
use Rattle.duplex_commands.proofs.Writes.{beginning, begins_at, broken_writes, as_duplexed}
use Rattle.duplex_commands.proofs.write.run_loaded.Goals as goal

pub open-requires-clause-in_order : goal.open-requires-clause-in_order
open-requires-clause-in_order g c = order_rises _ c.args.channels.now c.requires.channels

pub open-requires-clause-few : goal.open-requires-clause-few
open-requires-clause-few g c = subst (λ (cs : List ℕ). length cs ≤ 1024) (sym c.requires.channels) (few_in_order c.args.inputs.now.plan)

pub returns-in_err-captures-clause-cause : goal.returns-in_err-captures-clause-cause
returns-in_err-captures-clause-cause g c =
    let p = err_from_is_err_and c.from_residual.result c.from_residual.ensures.1 in
    rw (p.1, p.2) c.in_err-captures.ensures.cause

pub returns-in_err-captures-clause-writes : goal.returns-in_err-captures-clause-writes
returns-in_err-captures-clause-writes g c =
    let i = c.args.inputs.now in
    let r = duplex_reading i in
    let p = err_from_is_err_and c.from_residual.result c.from_residual.ensures.1 in
    let listed = plan_order i.plan c.args.channels.now c.requires.channels in
    rw (p.1, p.2) (broken_writes r c.args.duplex.now c.requires.loaded (g.S.Store.files c.args.store.now) c.in_err-captures.field-0.0 _
    (subst (λ (out : List ℕ). IsBroken (record { setting = the_setting r.plan; link_type = r.plan.link_type; out = out; was = g.S.Store.files c.args.store.now }) [] [] c.in_err-captures.field-0.0 (g.S.Store.files c.open.new.store)) c.as_str.ensures.value
    (c.in_err-captures.ensures.opens (the_setting r.plan) (sym listed))))

pub run_ends-requires-clause-at : goal.run_ends-requires-clause-at
run_ends-requires-clause-at g c =
    let i = c.args.inputs.now in
    let r = duplex_reading i in
    let listed = plan_order i.plan c.args.channels.now c.requires.channels in (
      beginning r (g.S.Store.files c.args.store.now),
      run_settings r.settings,
      c.requires.loaded.ends,
      begins_at r c.args.duplex.now c.requires.loaded (g.S.Store.files c.args.store.now) _ _
          (subst (λ (out : List ℕ). AreKept (record { setting = the_setting r.plan; link_type = r.plan.link_type; out = out; was = g.S.Store.files c.args.store.now }) [] [] c.in_ok-captures.captures (g.S.Store.files c.open.new.store)) c.as_str.ensures.value
          (c.in_ok-captures.ensures.opens (the_setting r.plan) (sym listed))),
      c.requires.loaded.are.a.channels,
    )

pub run_ends-requires-clause-given : goal.run_ends-requires-clause-given
run_ends-requires-clause-given g c = c.requires.loaded.given

pub returns-clause-writes : goal.returns-clause-writes
returns-clause-writes g c =
    let i = c.args.inputs.now in
    let r = duplex_reading i in
    let listed = plan_order i.plan c.args.channels.now c.requires.channels in
    as_duplexed r c.args.duplex.now c.requires.loaded (g.S.Store.files c.args.store.now) c.run_ends.result _
    (c.run_ends.ensures.writes (beginning r (g.S.Store.files c.args.store.now)) (run_settings r.settings) c.requires.loaded.ends
    (begins_at r c.args.duplex.now c.requires.loaded (g.S.Store.files c.args.store.now) _ _
    (subst (λ (out : List ℕ). AreKept (record { setting = the_setting r.plan; link_type = r.plan.link_type; out = out; was = g.S.Store.files c.args.store.now }) [] [] c.in_ok-captures.captures (g.S.Store.files c.open.new.store)) c.as_str.ensures.value
    (c.in_ok-captures.ensures.opens (the_setting r.plan) (sym listed))))
    c.requires.loaded.are.a.channels refl)

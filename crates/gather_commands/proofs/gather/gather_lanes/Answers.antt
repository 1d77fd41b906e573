use Rattle.std.proofs.Common.{◌∙◌, ap, subst, sym, ℕ, List, length, map, replicate, string_bytes, Some}
use Rattle.std.proofs.lemmas.Result.{err_from_is_err_and}
use Rattle.link_plan.specs.Views.{plan_value}
use Rattle.rx_front.specs.Calls.{nothing_fed}
use Rattle.gather_commands.specs.Taking.{IsGathering}
use Rattle.gather_commands.proofs.GatherRun.{unmade, unopened}
use Rattle.gather_commands.proofs.gather.gather_lanes.Goals as goal

pub returns-in_err-lanes-clause-fills : goal.returns-in_err-lanes-clause-fills
returns-in_err-lanes-clause-fills g c =
    let p = err_from_is_err_and c.from_residual.result c.from_residual.ensures.1 in
    rw (p.1, p.2) (unmade c.args.read.now.plan _).fills

pub returns-in_err-gatherer-clause-fills : goal.returns-in_err-gatherer-clause-fills
returns-in_err-gatherer-clause-fills g c =
    let plan = c.args.read.now.plan in
    let was = g.S.Store.files c.args.store.now in
    let lanes = c.in_ok-lanes.lanes.lanes in
    let named = ap (map string_bytes) (c.in_ok-lanes.ensures.names ∙ c.as_slice.ensures.value) ∙ c.requires.names in
    let p = err_from_is_err_and c.from_residual-in_err-gatherer.result c.from_residual-in_err-gatherer.ensures.1 in
    rw (p.1, p.2) (unopened plan c.as_str.result.now was c.as_str.ensures.value (map string_bytes lanes.names.now) named lanes.buffers.items c.in_ok-lanes.ensures.buffers.many c.in_ok-lanes.ensures.fresh c.in_err-gatherer.field-0.0 _ c.in_err-gatherer.ensures.begins).fills

pub returns-in_err-gatherer-clause-others : goal.returns-in_err-gatherer-clause-others
returns-in_err-gatherer-clause-others g c =
    let plan = c.args.read.now.plan in
    let was = g.S.Store.files c.args.store.now in
    let lanes = c.in_ok-lanes.lanes.lanes in
    let named = ap (map string_bytes) (c.in_ok-lanes.ensures.names ∙ c.as_slice.ensures.value) ∙ c.requires.names in
    (unopened plan c.as_str.result.now was c.as_str.ensures.value (map string_bytes lanes.names.now) named lanes.buffers.items c.in_ok-lanes.ensures.buffers.many c.in_ok-lanes.ensures.fresh c.in_err-gatherer.field-0.0 _ c.in_err-gatherer.ensures.begins).others

pub gather_open-requires-clause-names : goal.gather_open-requires-clause-names
gather_open-requires-clause-names g c = ap (map string_bytes) (c.in_ok-lanes.ensures.names ∙ c.as_slice.ensures.value) ∙ c.requires.names

pub gather_open-requires-clause-buffers : goal.gather_open-requires-clause-buffers
gather_open-requires-clause-buffers g c = c.in_ok-lanes.ensures.buffers

pub gather_open-requires-clause-fresh : goal.gather_open-requires-clause-fresh
gather_open-requires-clause-fresh g c = c.in_ok-lanes.ensures.fresh

pub gather_open-requires-clause-offsets : goal.gather_open-requires-clause-offsets
gather_open-requires-clause-offsets g c = c.in_ok-lanes.ensures.offsets ∙ ap (λ n. replicate n (Some 0)) (ap length (sym c.in_ok-lanes.ensures.names))

pub gather_open-requires-clause-gathering : goal.gather_open-requires-clause-gathering
gather_open-requires-clause-gathering g c =
    let plan = c.args.read.now.plan in
    let was = g.S.Store.files c.args.store.now in
    let at : IsGathering (plan_value plan).out plan.link (nothing_fed plan.link.lanes) c.in_ok-gatherer.gatherer was (g.S.Store.files c.new-2.new.store) =
    subst (λ (out : List ℕ). IsGathering out plan.link (nothing_fed plan.link.lanes) c.in_ok-gatherer.gatherer was (g.S.Store.files c.new-2.new.store)) c.as_str.ensures.value c.in_ok-gatherer.ensures.begins in
    (was, at)

pub returns-clause-others : goal.returns-clause-others
returns-clause-others g c =
    let plan = c.args.read.now.plan in
    let was = g.S.Store.files c.args.store.now in
    let at : IsGathering (plan_value plan).out plan.link (nothing_fed plan.link.lanes) c.in_ok-gatherer.gatherer was (g.S.Store.files c.new-2.new.store) =
    subst (λ (out : List ℕ). IsGathering out plan.link (nothing_fed plan.link.lanes) c.in_ok-gatherer.gatherer was (g.S.Store.files c.new-2.new.store)) c.as_str.ensures.value c.in_ok-gatherer.ensures.begins in
    c.gather_open.ensures.others was at

pub returns-clause-fills : goal.returns-clause-fills
returns-clause-fills g c =
    let plan = c.args.read.now.plan in
    let was = g.S.Store.files c.args.store.now in
    let at : IsGathering (plan_value plan).out plan.link (nothing_fed plan.link.lanes) c.in_ok-gatherer.gatherer was (g.S.Store.files c.new-2.new.store) =
    subst (λ (out : List ℕ). IsGathering out plan.link (nothing_fed plan.link.lanes) c.in_ok-gatherer.gatherer was (g.S.Store.files c.new-2.new.store)) c.as_str.ensures.value c.in_ok-gatherer.ensures.begins in
    c.gather_open.ensures.fills was at

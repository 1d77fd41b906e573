use Rattle.std.proofs.Common.{◌∙◌, ◌∷◌, [], ◌<◌, ◌^◌, sym, ap, subst, List, ℕ, length, map, string_bytes}
use Rattle.std.proofs.lemmas.Result.{err_from_is_err_and}
use Rattle.std.proofs.lemmas.List.{length-map}
use Rattle.run_stops.specs.Stops.{StopCount}
use Rattle.run_shell.specs.Open.{Open}
use Rattle.run_shell.specs.Outputs.{IsOpen, blank, open_names}
use Rattle.inspect_commands.specs.Inspect.{events_name}
use Rattle.inspect_commands.proofs.InspectRun.{as_many, ended, no_output, some_lanes, unmade, unopened}
use Rattle.inspect_commands.proofs.inspect.inspect_lanes.Goals as goal

pub returns-in_err-names-clause-fills : goal.returns-in_err-names-clause-fills
returns-in_err-names-clause-fills g c =
    let p = err_from_is_err_and c.from_residual.result c.from_residual.ensures.1 in
    rw (p.1, p.2) (unmade c.args.read.now.plan _).fills

pub returns-in_err-names-clause-others : goal.returns-in_err-names-clause-others
returns-in_err-names-clause-others g c = (unmade c.args.read.now.plan _).others

pub returns-in_err-lanes-clause-fills : goal.returns-in_err-lanes-clause-fills
returns-in_err-lanes-clause-fills g c =
    let r = c.from_residual-in_err-lanes in
    let p = err_from_is_err_and r.result r.ensures.1 in
    rw (p.1, p.2) (unmade c.args.read.now.plan _).fills

pub returns-in_err-lanes-clause-others : goal.returns-in_err-lanes-clause-others
returns-in_err-lanes-clause-others g c = (unmade c.args.read.now.plan _).others

pub returns-in_err-outputs-clause-fills : goal.returns-in_err-outputs-clause-fills
returns-in_err-outputs-clause-fills g c =
    let r = c.from_residual-in_err-outputs in
    let p = err_from_is_err_and r.result r.ensures.1 in
    rw (p.1, p.2) (unopened c.args.read.now.plan (map string_bytes c.in_ok-names.names.items) c.in_err-outputs.field-0.0 _ _ (c.in_ok-names.ensures.names ∙ ap (λ (o : List ℕ). events_name o ∷ []) c.as_str.ensures.value) c.in_err-outputs.ensures.stops c.in_err-outputs.ensures.created).fills

pub returns-in_err-outputs-clause-others : goal.returns-in_err-outputs-clause-others
returns-in_err-outputs-clause-others g c =
    (unopened c.args.read.now.plan (map string_bytes c.in_ok-names.names.items) c.in_err-outputs.field-0.0 _ _ (c.in_ok-names.ensures.names ∙ ap (λ (o : List ℕ). events_name o ∷ []) c.as_str.ensures.value) c.in_err-outputs.ensures.stops c.in_err-outputs.ensures.created).others

pub returns-in_err-outputs-clause-cause : goal.returns-in_err-outputs-clause-cause
returns-in_err-outputs-clause-cause g c =
    let r = c.from_residual-in_err-outputs in
    let p = err_from_is_err_and r.result r.ensures.1 in
    rw (p.1, p.2) c.in_err-outputs.ensures.cause

pub write_table-requires-clause-count : goal.write_table-requires-clause-count
write_table-requires-clause-count g c = subst (λ (n : ℕ). n < 2 ^ 60) (sym c.in_ok-outputs.ensures.cause) c.requires.count

pub write_table-requires-clause-one : goal.write_table-requires-clause-one
write_table-requires-clause-one g c = sym (length-map c.in_ok-outputs.outputs (λ (x : Open). x.name)) ∙ ap length (c.in_ok-outputs.ensures.names ∙ c.in_ok-names.ensures.names)

pub write_table-requires-clause-many : goal.write_table-requires-clause-many
write_table-requires-clause-many g c =
    let plan = c.args.read.now.plan in
    let lanes = c.in_ok-lanes.lanes in
    let named = ap (map string_bytes) (c.in_ok-lanes.ensures.names ∙ c.as_slice.ensures.value) ∙ c.requires.names in
    as_many plan (map string_bytes lanes.names.now) named lanes.buffers.items c.in_ok-lanes.ensures.buffers.many c.in_ok-lanes.ensures.fresh

pub write_table-requires-clause-apart : goal.write_table-requires-clause-apart
write_table-requires-clause-apart g c =
    let plan = c.args.read.now.plan in
    let lanes = c.in_ok-lanes.lanes in
    let named = ap (map string_bytes) (c.in_ok-lanes.ensures.names ∙ c.as_slice.ensures.value) ∙ c.requires.names in
    let is = c.in_ok-outputs.ensures.names ∙ c.in_ok-names.ensures.names ∙ ap (λ (o : List ℕ). events_name o ∷ []) c.as_str.ensures.value in
    no_output plan (map string_bytes lanes.names.now) named lanes.buffers.items c.in_ok-lanes.ensures.buffers.many c.in_ok-lanes.ensures.fresh (open_names c.in_ok-outputs.outputs) is c.keeps_limits.ensures.lanes.1

pub write_table-requires-clause-open : goal.write_table-requires-clause-open
write_table-requires-clause-open g c =
    let plan = c.args.read.now.plan in
    let was = g.S.Store.files c.args.store.now in
    let lanes = c.in_ok-lanes.lanes in
    let named = ap (map string_bytes) (c.in_ok-lanes.ensures.names ∙ c.as_slice.ensures.value) ∙ c.requires.names in
    let opened = subst (λ (ns : List (List ℕ)). IsOpen c.in_ok-outputs.outputs (blank ns) was (g.S.Store.files c.create.new.store)) (sym c.in_ok-outputs.ensures.names) c.in_ok-outputs.ensures.created in
    let (all, (count, are)) = some_lanes plan (map string_bytes lanes.names.now) named lanes.buffers.items c.in_ok-lanes.ensures.buffers.many c.in_ok-lanes.ensures.fresh was c.requires.there in
    (all, was, count, opened, are)

pub returns-clause-cause : goal.returns-clause-cause
returns-clause-cause g c = subst (λ (n : ℕ). StopCount c.write_table.result n (g.S.Store.faults c.write_table.new.store)) c.in_ok-outputs.ensures.cause c.write_table.ensures.cause

pub returns-clause-fills : goal.returns-clause-fills
returns-clause-fills g c =
    let plan = c.args.read.now.plan in
    let was = g.S.Store.files c.args.store.now in
    let lanes = c.in_ok-lanes.lanes in
    let named = ap (map string_bytes) (c.in_ok-lanes.ensures.names ∙ c.as_slice.ensures.value) ∙ c.requires.names in
    let is = c.in_ok-outputs.ensures.names ∙ c.in_ok-names.ensures.names ∙ ap (λ (o : List ℕ). events_name o ∷ []) c.as_str.ensures.value in
    let opened = subst (λ (ns : List (List ℕ)). IsOpen c.in_ok-outputs.outputs (blank ns) was (g.S.Store.files c.create.new.store)) (sym c.in_ok-outputs.ensures.names) c.in_ok-outputs.ensures.created in
    (ended plan (map string_bytes lanes.names.now) named lanes.buffers.items c.in_ok-lanes.ensures.buffers.many c.in_ok-lanes.ensures.fresh c.in_ok-outputs.outputs is _ was c.write_table.result c.requires.there (λ all count are. c.write_table.ensures.writes all was count opened are)).fills

pub returns-clause-others : goal.returns-clause-others
returns-clause-others g c =
    let plan = c.args.read.now.plan in
    let was = g.S.Store.files c.args.store.now in
    let lanes = c.in_ok-lanes.lanes in
    let named = ap (map string_bytes) (c.in_ok-lanes.ensures.names ∙ c.as_slice.ensures.value) ∙ c.requires.names in
    let is = c.in_ok-outputs.ensures.names ∙ c.in_ok-names.ensures.names ∙ ap (λ (o : List ℕ). events_name o ∷ []) c.as_str.ensures.value in
    let opened = subst (λ (ns : List (List ℕ)). IsOpen c.in_ok-outputs.outputs (blank ns) was (g.S.Store.files c.create.new.store)) (sym c.in_ok-outputs.ensures.names) c.in_ok-outputs.ensures.created in
    (ended plan (map string_bytes lanes.names.now) named lanes.buffers.items c.in_ok-lanes.ensures.buffers.many c.in_ok-lanes.ensures.fresh c.in_ok-outputs.outputs is _ was c.write_table.result c.requires.there (λ all count are. c.write_table.ensures.writes all was count opened are)).others

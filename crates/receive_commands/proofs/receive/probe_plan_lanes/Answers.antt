use Rattle.std.proofs.Common.{◌≡◌, ◌∙◌, ap, ap₂, map, subst, string_bytes, List, ℕ, Contains, IfSome, Ok, Err}
use Rattle.std.proofs.lemmas.Result.{err_from_is_err_and}
use Rattle.run_stops.specs.Reading.{Reads}
use Rattle.run_shell.specs.Names.{lane_names}
use Rattle.receive_commands.specs.Receive.{lanes_in}
use Rattle.receive_commands.proofs.LanesRead.{out_of_memory}
use Rattle.receive_commands.proofs.receive.probe_plan_lanes.Goals as goal

pub returns-in_err-names-clause-probes : goal.returns-in_err-names-clause-probes
returns-in_err-names-clause-probes g c =
    let p = err_from_is_err_and c.from_residual.result c.from_residual.ensures.1 in
    rw (p.1, p.2) (out_of_memory (g.S.Store.files c.args.store.now))

pub returns-in_err-probe_lanes-clause-probes : goal.returns-in_err-probe_lanes-clause-probes
returns-in_err-probe_lanes-clause-probes g c =
    let r = c.from_residual-in_err-probe_lanes in
    let p = err_from_is_err_and r.result r.ensures.1 in
    let named = ap (map string_bytes) c.deref.ensures.value ∙ c.in_ok-names.ensures.names ∙ ap₂ lane_names c.as_str.ensures.value c.lanes.ensures in
    rw (p.1, p.2)
    (subst (λ (ns : List (List ℕ)). IfSome (g.S.Store.files c.args.store.now) (λ files. Reads {T = List (List ℕ)} (λ v. v) (Contains ns) (Err c.in_err-probe_lanes.field-0.0) (lanes_in files ns)))
    named c.in_err-probe_lanes.ensures.probes)

pub returns-clause-names : goal.returns-clause-names
returns-clause-names g c = c.in_ok-names.ensures.names ∙ ap₂ lane_names c.as_str.ensures.value c.lanes.ensures

pub returns-clause-probes : goal.returns-clause-probes
returns-clause-probes g c =
    let named = ap (map string_bytes) c.deref.ensures.value ∙ c.in_ok-names.ensures.names ∙ ap₂ lane_names c.as_str.ensures.value c.lanes.ensures in
    subst (λ (ns : List (List ℕ)). IfSome (g.S.Store.files c.args.store.now) (λ files. (lanes : List (List ℕ)) × (lanes_in files ns ≡ Ok lanes))) named c.in_ok-probe_lanes.ensures.probes

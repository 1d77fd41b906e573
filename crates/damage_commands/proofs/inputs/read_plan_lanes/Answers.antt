-- The lanes of a plan, under their names.
use Rattle.std.proofs.Common.{◌≡◌, ◌∙◌, sym, ap, subst, List, ℕ, IfOk, IfSome, Contains, Vec, Global, length, map, string_bytes}
use Rattle.std.proofs.lemmas.List.{length-map}
use Rattle.std.proofs.lemmas.List.FromFn.{length-map-range_with_len}
use Rattle.std.proofs.lemmas.Result.{err_from_is_err_and}
use Rattle.link_plan.specs.Views.{plan_value}
use Rattle.run_stops.specs.Reading.{Reads, vec_items}
use Rattle.run_shell.specs.Names.{lane_name, lane_names}
use Rattle.lane_receipts.specs.LaneReports.{names_of_lanes}
use Rattle.damage_commands.specs.PlanLanes.{lanes_in}
use Rattle.damage_commands.proofs.Damages.{out_of_memory}
use Rattle.damage_commands.proofs.inputs.read_plan_lanes.Goals as goal

pub returns-in_err-names-clause-reads : goal.returns-in_err-names-clause-reads
returns-in_err-names-clause-reads g c =
    let p = err_from_is_err_and c.from_residual.result c.from_residual.ensures.1 in
    rw (p.1, p.2) (out_of_memory (g.S.Store.files c.args.store.now))

pub returns-clause-many : goal.returns-clause-many
returns-clause-many g c =
    let plan = plan_value c.args.plan.now in
    let names : map string_bytes c.deref.result.now ≡ names_of_lanes plan =
    ap (map string_bytes) c.deref.ensures.value ∙ c.in_ok-names.ensures.names ∙ ap (λ out. lane_names out c.lanes.result) c.as_str.ensures.value ∙ ap (lane_names plan.out) c.lanes.ensures in
    let many : length c.deref.result.now ≡ plan.settings.lanes =
    sym (length-map c.deref.result.now string_bytes) ∙ ap length names ∙ length-map-range_with_len (lane_name plan.out) 0 plan.settings.lanes in
    subst (λ (n : ℕ). IfOk c.read_lanes.result (λ lanes. length lanes.items ≡ n)) many c.read_lanes.ensures.many

pub returns-clause-reads : goal.returns-clause-reads
returns-clause-reads g c =
    let plan = plan_value c.args.plan.now in
    let names : map string_bytes c.deref.result.now ≡ names_of_lanes plan =
    ap (map string_bytes) c.deref.ensures.value ∙ c.in_ok-names.ensures.names ∙ ap (λ out. lane_names out c.lanes.result) c.as_str.ensures.value ∙ ap (lane_names plan.out) c.lanes.ensures in
    subst (λ (ns : List (List ℕ)). IfSome (g.S.Store.files c.args.store.now) (λ files. Reads (λ (lanes : Vec (Vec ℕ Global) Global). map vec_items lanes.items) (Contains ns) c.read_lanes.result (lanes_in files ns)))
    names c.read_lanes.ensures.reads

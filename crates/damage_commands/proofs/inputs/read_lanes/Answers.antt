use Rattle.std.proofs.Common.{◌∙◌, ◌+◌, ◌≤◌, ℕ, ap, length, map, refl, arith, string_bytes, Vec, Global}
use Rattle.std.proofs.lemmas.List.{length-map, length_push}
use Rattle.std.proofs.lemmas.Result.{err_from_is_err_and}
use Rattle.run_shell.proofs.Creating.{named}
use Rattle.run_stops.specs.Reading.{vec_items}
use Rattle.damage_commands.specs.PlanLanes.{whole_lane_limit}
use Rattle.damage_commands.proofs.LanesRead.{all_there, begin_there, fit_more, goes_there, no_lanes_fit, stops_there}
use Rattle.damage_commands.proofs.inputs.read_lanes.Goals as goal

pub loop-name-init : goal.loop-name-init
loop-name-init g c =
    let none = c.new-lanes.ensures.items in
    record { same_faults = refl; same_files = refl; many = ap length none; few = no_lanes_fit _ none; led = begin_there _ _ _ none }

pub loop-name-preserved : goal.loop-name-preserved
loop-name-preserved g c =
    let at = named string_bytes _ _ _ _ c.loop-name-test.true c.name-item.is c.as_str.ensures.value in
    let pushed = c.in_ok-push.ensures.items in
    let old = c.loop-name.invariant in
    let within : length c.in_ok-read_input.field-0.items ≤ whole_lane_limit = omega (arith, c.in_ok-read_input.ensures.fits, c.in_ok-read_input.field-0.ok) in
    record {
      same_faults = c.in_ok-read_input.ensures.cause ∙ old.same_faults;
      same_files = c.in_ok-read_input.ensures.unchanged ∙ old.same_files;
      many = ap length pushed ∙ length_push c.loop-name.lanes.items c.in_ok-read_input.field-0 ∙ ap (λ n. n + 1) old.many;
      few = fit_more c.loop-name.lanes.items _ c.in_ok-read_input.field-0 pushed old.few within;
      led = goes_there _ _ _ at.0 at.1 c.loop-name.lanes.items c.in_ok-read_input.field-0 _ _ _ old.same_files pushed old.led c.in_ok-read_input.ensures.reads;
    }

pub returns-in_err-read_input-clause-reads : goal.returns-in_err-read_input-clause-reads
returns-in_err-read_input-clause-reads g c =
    let at = named string_bytes _ _ _ _ c.loop-name-test.true c.name-item.is c.as_str.ensures.value in
    let p = err_from_is_err_and c.from_residual.result c.from_residual.ensures.1 in
    rw (p.1, p.2) (stops_there _ _ _ at.0 at.1 c.loop-name.lanes.items (Vec (Vec ℕ Global) Global) (λ lanes. map vec_items lanes.items) c.in_err-read_input.field-0.0 _ _ c.loop-name.invariant.same_files c.loop-name.invariant.led c.in_err-read_input.ensures.reads)

pub returns-clause-reads : goal.returns-clause-reads
returns-clause-reads g c =
    let len = length-map c.args.names.now string_bytes in
    all_there _ _ _ _ (omega arith) c.loop-name.invariant.led

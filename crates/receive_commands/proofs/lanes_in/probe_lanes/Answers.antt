use Rattle.std.proofs.Common.{◌∙◌, refl, arith, string_bytes}
use Rattle.std.proofs.lemmas.List.{length-map}
use Rattle.std.proofs.lemmas.Result.{err_from_is_err_and}
use Rattle.run_shell.proofs.Creating.{named}
use Rattle.receive_commands.proofs.LanesThere.{all_there, begin_there, goes_there, stops_there}
use Rattle.receive_commands.proofs.lanes_in.probe_lanes.Goals as goal

pub loop-name-init : goal.loop-name-init
loop-name-init g c = record { same_faults = refl; same_files = refl; led = begin_there _ (g.S.Store.files c.args.store.now) }

pub loop-name-preserved : goal.loop-name-preserved
loop-name-preserved g c =
    let at = named string_bytes _ _ _ _ c.loop-name-test.true c.name-item.is c.as_str.ensures.value in
    record {
      same_faults = c.in_ok-probe_input.ensures.cause ∙ c.loop-name.invariant.same_faults;
      same_files = c.in_ok-probe_input.ensures.unchanged ∙ c.loop-name.invariant.same_files;
      led = goes_there _ _ _ at.0 at.1 _ _ c.loop-name.invariant.same_files c.loop-name.invariant.led c.in_ok-probe_input.ensures.probes;
    }

pub returns-in_err-probe_input-clause-probes : goal.returns-in_err-probe_input-clause-probes
returns-in_err-probe_input-clause-probes g c =
    let at = named string_bytes _ _ _ _ c.loop-name-test.true c.name-item.is c.as_str.ensures.value in
    let p = err_from_is_err_and c.from_residual.result c.from_residual.ensures.1 in
    rw (p.1, p.2) (stops_there _ _ _ at.0 at.1 c.in_err-probe_input.field-0.0 _ _ c.loop-name.invariant.same_files c.loop-name.invariant.led c.in_err-probe_input.ensures.probes)

pub returns-clause-probes : goal.returns-clause-probes
returns-clause-probes g c =
    let len = length-map c.args.names.now string_bytes in
    all_there _ _ _ (omega arith) c.loop-name.invariant.led

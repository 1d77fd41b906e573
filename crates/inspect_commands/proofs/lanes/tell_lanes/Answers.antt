use Rattle.std.proofs.Common.{◌≡◌, ◌∙◌, subst, List, ℕ, Contains, arith}
use Rattle.std.proofs.lemmas.Result.{err_from_is_err_and}
use Rattle.run_shell.specs.Outputs.{open_names}
use Rattle.inspect_commands.specs.Telling.{AreShort, AreTold}
use Rattle.inspect_commands.proofs.AllLanes.{broken_of}
use Rattle.inspect_commands.proofs.lanes.tell_lanes.Goals as goal

pub tell_lane-requires-clause-apart : goal.tell_lane-requires-clause-apart
tell_lane-requires-clause-apart g c = λ q among output.
    c.requires.apart q (subst (λ (ns : List (List ℕ)). Contains ns q) c.loop-lane.invariant.files among) (subst (λ (ns : List (List ℕ)). Contains ns q) c.loop-lane.invariant.names output)

pub returns-in_err-tell_lane-clause-tells : goal.returns-in_err-tell_lane-clause-tells
returns-in_err-tell_lane-clause-tells g c = λ all was count at.
    let i = c.loop-lane.invariant in
    let now = i.told all was count at in
    let p = err_from_is_err_and c.from_residual.result c.from_residual.ensures.1 in
    rw (p.1, p.2) (broken_of c.args.link.now all (open_names c.loop-lane.outputs) (g.P.LanePieces.file_names c.loop-lane.lanes) (open_names c.args.outputs.now) (g.P.LanePieces.file_names c.args.lanes.now) c.in_err-tell_lane.field-0.0 was _ i.names i.files
    ((c.in_err-tell_lane.ensures {u = tt}).tells all was (let t = c.loop-lane-test.true in let n = c.lanes-lane-end.ensures in omega (arith, t, n, count)) now))

pub loop-lane-preserved : goal.loop-lane-preserved
loop-lane-preserved g c =
    let i = c.loop-lane.invariant in
    let next = c.in_ok-tell_lane.ensures {u = tt} in
    record {
      same_faults = next.cause ∙ i.same_faults;
      names = next.names ∙ i.names;
      lanes = next.lanes ∙ i.lanes;
      files = next.files ∙ i.files;
      limits = next.limits;
      told = λ all was count at. next.tells all was (let t = c.loop-lane-test.true in let n = c.lanes-lane-end.ensures in omega (arith, t, n, count)) (i.told all was count at);
    }

pub returns-clause-tells : goal.returns-clause-tells
returns-clause-tells g c = λ all was count at.
    let end : c.loop-lane.lane ≡ c.args.link.now.lanes = (let a = c.loop-lane.auto.lane-end in let b = c.loop-lane-test.false in let n = c.lanes-lane-end.ensures in omega (arith, a, b, n)) in
    subst (λ (n : ℕ). AreTold c.args.link.now n all (g.P.LanePieces.are_lanes c.loop-lane.lanes was all × AreShort all) c.loop-lane.told c.loop-lane.outputs was (g.S.Store.files c.loop-lane.store)) end (c.loop-lane.invariant.told all was count at)

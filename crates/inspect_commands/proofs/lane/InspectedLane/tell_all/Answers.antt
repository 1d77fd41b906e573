use Rattle.std.proofs.Common.{◌∙◌, refl, subst, List, ℕ, [], get_or, Contains, rules}
use Rattle.std.proofs.lemmas.Result.{err_from_is_err_and}
use Rattle.run_shell.specs.Outputs.{open_names}
use Rattle.inspect_commands.proofs.Tellings.{cut_of, goes_on, is_over}
use Rattle.inspect_commands.proofs.lane.InspectedLane.tell_all.Goals as goal

pub pieces-init : goal.pieces-init
pieces-init g c = record { same_faults = refl; names = refl; lanes = refl; files = refl; limits = c.requires.limits; fits = c.requires.fits; telling = λ s all given was at. at }

pub tell_next-requires-clause-apart : goal.tell_next-requires-clause-apart
tell_next-requires-clause-apart g c = λ q among output.
    c.requires.apart q (subst (λ (ns : List (List ℕ)). Contains ns q) c.pieces.invariant.files among) (subst (λ (ns : List (List ℕ)). Contains ns q) c.pieces.invariant.names output)

pub returns-in_err-tell_next-clause-tells : goal.returns-in_err-tell_next-clause-tells
returns-in_err-tell_next-clause-tells g c = λ s all given was at.
    let p = err_from_is_err_and c.from_residual.result c.from_residual.ensures.1 in
    rw (p.1, p.2) (cut_of s c.args.lane (get_or all c.args.lane []) given (open_names c.pieces.outputs) (g.P.LanePieces.file_names c.pieces.lanes) (open_names c.args.outputs.now) (g.P.LanePieces.file_names c.args.lanes.now) c.in_err-tell_next.field-0.0 was _
    c.pieces.invariant.names c.pieces.invariant.files (c.in_err-tell_next.ensures.tells s all given was (c.pieces.invariant.telling s all given was at)))

pub returns-then-not-branch-clause-tells : goal.returns-then-not-branch-clause-tells
returns-then-not-branch-clause-tells g c = λ s all given was at.
    is_over s c.args.lane (get_or all c.args.lane []) given _ (g.P.LanePieces.file_names c.pieces.lanes) c.in_ok-tell_next.field-0 c.tell_next.new.self c.pieces.outputs c.tell_next.new.outputs was _ (search rules) (c.in_ok-tell_next.ensures.tells s all given was (c.pieces.invariant.telling s all given was at))

pub pieces-preserved : goal.pieces-preserved
pieces-preserved g c =
    let i = c.pieces.invariant in
    let next = c.in_ok-tell_next.ensures in
    record {
      same_faults = next.cause ∙ i.same_faults;
      names = next.names ∙ i.names;
      lanes = next.lanes ∙ i.lanes;
      files = next.files ∙ i.files;
      limits = next.limits;
      fits = next.fits;
      telling = λ s all given was at. goes_on s c.args.lane (get_or all c.args.lane []) given _ (g.P.LanePieces.file_names c.pieces.lanes) c.in_ok-tell_next.field-0 c.tell_next.new.self c.pieces.outputs c.tell_next.new.outputs was _ (search rules) (next.tells s all given was (i.telling s all given was at));
    }

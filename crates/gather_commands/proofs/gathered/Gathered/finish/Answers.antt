use Rattle.std.proofs.Common.{◌≡◌, List, ℕ, subst}
use Rattle.std.proofs.lemmas.Result.{err_from_is_err_and}
use Rattle.run_shell.specs.Outcome.{Outcome}
use Rattle.run_shell.specs.Writing.{Writes}
use Rattle.lane_words.specs.Gathered.{gathered_words, places}
use Rattle.gather_commands.specs.Table.{finished_outcome, gathered_names}
use Rattle.gather_commands.proofs.Finishing.{none_written}
use Rattle.gather_commands.proofs.gathered.Gathered.finish.Goals as goal

pub returns-in_err-text-clause-writes : goal.returns-in_err-text-clause-writes
returns-in_err-text-clause-writes g c out items was h =
    let p = err_from_is_err_and c.from_residual.result c.from_residual.ensures.1 in
    rw (p.1, p.2) (none_written out _ (gathered_words items) (places items) c.args.self.now.files was _ h.files)

pub returns-clause-writes : goal.returns-clause-writes
returns-clause-writes g c out items was h =
    subst (λ (text : List ℕ). Writes (λ (o : Outcome). o ≡ finished_outcome out text (gathered_words items) (places items)) (gathered_names out) c.finish.result was (g.S.Store.files c.finish.new.store)) (c.in_ok-text.ensures out items was _ h)
    (c.finish.ensures.writes out (gathered_words items) (places items) was h.files)

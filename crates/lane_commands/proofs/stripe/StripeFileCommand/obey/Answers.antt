use Rattle.std.proofs.Common.{string_bytes}
use Rattle.std.proofs.lemmas.Result.{err_from_is_err_and}
use Rattle.run_shell.specs.Names.{lane_names}
use Rattle.run_shell.proofs.OutputNames.{numbered_name}
use Rattle.run_shell.proofs.Works.{reading_ends}
use Rattle.run_shell.proofs.Writing.{writes_comes, writes_leaves}
use Rattle.lane_commands.specs.Stripe.{IsReadFor, stripe_work}
use Rattle.lane_commands.specs.Values.{words_value}
use Rattle.lane_commands.proofs.StripeWork.{stripe_means}
use Rattle.lane_commands.proofs.stripe.StripeFileCommand.obey.Goals as goal

pub returns-in_err-read-clause-lawful : goal.returns-in_err-read-clause-lawful
returns-in_err-read-clause-lawful g c = stripe_means c.args.file.now

pub returns-in_err-read-clause-comes : goal.returns-in_err-read-clause-comes
returns-in_err-read-clause-comes g c =
    let p = err_from_is_err_and c.from_residual.result c.from_residual.ensures.1 in
    rw (p.1, p.2) (reading_ends _ (stripe_work _) words_value (IsReadFor c.args.file.now) c.in_err-read.field-0.0 _ _ c.in_err-read.ensures.unchanged (λ u q e. e) c.in_err-read.ensures.reads)

pub returns-clause-lawful : goal.returns-clause-lawful
returns-clause-lawful g c = stripe_means c.args.file.now

pub returns-clause-comes : goal.returns-clause-comes
returns-clause-comes g c =
    let out = string_bytes c.in_ok-read.read.plan.out in
    let lanes = c.in_ok-read.read.plan.link.lanes in
    writes_comes (stripe_work c.args.file.now) (words_value c.in_ok-read.read) (lane_names out lanes) (λ q h. numbered_name out lanes q h) c.write_stripes-finished.result _ _ _ c.in_ok-read.ensures.unchanged c.in_ok-read.ensures.reads c.write_stripes-finished.ensures.writes

pub returns-clause-others : goal.returns-clause-others
returns-clause-others g c =
    let out = string_bytes c.in_ok-read.read.plan.out in
    let lanes = c.in_ok-read.read.plan.link.lanes in
    writes_leaves (stripe_work c.args.file.now) (words_value c.in_ok-read.read) (lane_names out lanes) (λ q h. numbered_name out lanes q h) c.write_stripes-finished.result _ _ _ c.in_ok-read.ensures.unchanged c.in_ok-read.ensures.reads c.write_stripes-finished.ensures.writes

use Rattle.std.proofs.Common.{◌∙◌, [], refl, arith}
use Rattle.std.proofs.lemmas.Result.{err_from_is_err_and}
use Rattle.gather_commands.proofs.Stops.{created_stopped, grown_put, grown_stopped, heading_given, none_stopped, opens_differ, two_opens}
use Rattle.gather_commands.proofs.files.GatheredFiles.create.Goals as goal

pub returns-in_err-names-clause-puts : goal.returns-in_err-names-clause-puts
returns-in_err-names-clause-puts g c =
    let p = err_from_is_err_and c.from_residual.result c.from_residual.ensures.1 in
    rw (p.1, p.2) (none_stopped c.args.out.now [] [] _)

pub returns-in_err-outputs-clause-puts : goal.returns-in_err-outputs-clause-puts
returns-in_err-outputs-clause-puts g c =
    let p = err_from_is_err_and c.from_residual-in_err-outputs.result c.from_residual-in_err-outputs.ensures.1 in
    rw (p.1, p.2) (created_stopped c.args.out.now _ [] [] c.in_err-outputs.field-0.0 _ _ c.in_ok-names.ensures.names c.in_err-outputs.ensures.stops c.in_err-outputs.ensures.created)

pub put-requires-clause-place : goal.put-requires-clause-place
put-requires-clause-place g c =
    let two = two_opens c.args.out.now c.in_ok-outputs.outputs (c.in_ok-outputs.ensures.names ∙ c.in_ok-names.ensures.names) in
    omega (arith, two)

pub put-requires-clause-differ : goal.put-requires-clause-differ
put-requires-clause-differ g c = opens_differ c.args.out.now c.in_ok-outputs.outputs (c.in_ok-outputs.ensures.names ∙ c.in_ok-names.ensures.names)

pub put-requires-clause-open : goal.put-requires-clause-open
put-requires-clause-open g c = (_, _, c.in_ok-outputs.ensures.created)

pub returns-in_err-put-clause-puts : goal.returns-in_err-put-clause-puts
returns-in_err-put-clause-puts g c =
    let named = c.in_ok-outputs.ensures.names ∙ c.in_ok-names.ensures.names in
    let p = err_from_is_err_and c.from_residual-in_err-put.result c.from_residual-in_err-put.ensures.1 in
    rw (p.1, p.2) (grown_stopped c.args.out.now [] [] c.in_ok-outputs.outputs c.put.new.self _ _ _ named (heading_given c.args.out.now _ c.heading.result.now c.in_ok-names.ensures.names c.heading.ensures) (Unit {0}) c.in_err-put.field-0.0 c.in_err-put.ensures.stops
    (c.in_err-put.ensures.grown _ _ c.in_ok-outputs.ensures.created))

pub returns-clause-puts : goal.returns-clause-puts
returns-clause-puts g c =
    let named = c.in_ok-outputs.ensures.names ∙ c.in_ok-names.ensures.names in
    grown_put c.args.out.now [] [] c.in_ok-outputs.outputs c.put.new.self _ _ _ named (heading_given c.args.out.now _ c.heading.result.now c.in_ok-names.ensures.names c.heading.ensures) (Unit {0}) tt _ refl refl c.in_ok-put.ensures.names
    (c.in_ok-put.ensures.grown _ _ c.in_ok-outputs.ensures.created)

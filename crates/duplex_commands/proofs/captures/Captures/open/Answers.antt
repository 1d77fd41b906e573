use Rattle.std.proofs.Common.{sym, subst, string_bytes}
use Rattle.std.proofs.lemmas.List.{length-map}
use Rattle.std.proofs.lemmas.Result.{err_from_is_err_and}
use Rattle.run_shell.specs.Outputs.{Differ}
use Rattle.receipts.proofs.NamesDiffer.{small_channels}
use Rattle.duplex_commands.proofs.Kept.{names_differ, none_opened, not_opened, opened}
use Rattle.duplex_commands.proofs.captures.Captures.open.Goals as goal

pub returns-in_err-a-clause-opens : goal.returns-in_err-a-clause-opens
returns-in_err-a-clause-opens g c setting listed =
    let p = err_from_is_err_and c.from_residual.result c.from_residual.ensures.1 in
    rw (p.1, p.2) (none_opened _ c.args.channels.now listed)

pub returns-in_err-b-clause-opens : goal.returns-in_err-b-clause-opens
returns-in_err-b-clause-opens g c setting listed =
    let r = c.from_residual-in_err-b in
    let p = err_from_is_err_and r.result r.ensures.1 in
    rw (p.1, p.2) (none_opened _ c.args.channels.now listed)

pub returns-in_err-names-clause-opens : goal.returns-in_err-names-clause-opens
returns-in_err-names-clause-opens g c setting listed =
    let r = c.from_residual-in_err-names in
    let p = err_from_is_err_and r.result r.ensures.1 in
    rw (p.1, p.2) (none_opened _ c.args.channels.now listed)

pub create_headed-requires-clause-differ : goal.create_headed-requires-clause-differ
create_headed-requires-clause-differ g c =
    subst Differ (sym c.in_ok-names.ensures) (names_differ c.args.out.now c.args.channels.now c.requires.in_order (small_channels c.args.channels.now c.type_inv.channels))

pub returns-in_err-outputs-clause-opens : goal.returns-in_err-outputs-clause-opens
returns-in_err-outputs-clause-opens g c setting listed =
    let r = c.from_residual-in_err-outputs in
    let p = err_from_is_err_and r.result r.ensures.1 in
    rw (p.1, p.2) (not_opened _ c.args.channels.now listed _ c.in_ok-names.ensures _ (sym (length-map c.in_ok-names.names.items string_bytes)) c.in_err-outputs.field-0.0 _ c.in_err-outputs.ensures.firsts)

pub returns-clause-opens : goal.returns-clause-opens
returns-clause-opens g c setting listed =
    opened _ c.args.channels.now listed _ c.in_ok-names.ensures _ (sym (length-map c.in_ok-names.names.items string_bytes)) _ _ c.requires.few c.in_ok-outputs.ensures.names
    (subst Differ (sym c.in_ok-names.ensures) (names_differ c.args.out.now c.args.channels.now c.requires.in_order (small_channels c.args.channels.now c.type_inv.channels)))
    c.in_ok-outputs.ensures.firsts c.in_ok-a.ensures c.in_ok-b.ensures

use Rattle.std.proofs.Common.{◌∙◌, ap, List}
use Rattle.std.proofs.lemmas.Result.{err_from_is_err_and}
use Rattle.link_plan.specs.Listing.{channels_in_order, numbers_of}
use Rattle.link_plan.specs.declared.channel.ChannelRow.{ChannelRow}
use Rattle.run_shell.proofs.Writing.{none_writes}
use Rattle.duplex_commands.specs.Run.{IsDuplexed, duplex_names}
use Rattle.duplex_commands.specs.Values.{duplex_reading}
use Rattle.duplex_commands.proofs.write.write_duplex.Goals as goal

pub returns-in_err-channels-clause-writes : goal.returns-in_err-channels-clause-writes
returns-in_err-channels-clause-writes g c =
    let p = err_from_is_err_and c.from_residual.result c.from_residual.ensures.1 in
    rw (p.1, p.2) (none_writes (IsDuplexed (duplex_reading c.args.inputs.now)) (duplex_names (duplex_reading c.args.inputs.now)) _ _ tt)

pub loaded-requires-clause-channels : goal.loaded-requires-clause-channels
loaded-requires-clause-channels g c = c.deref-2.ensures.value ∙ c.in_ok-channels.ensures ∙ ap (λ (rows : List ChannelRow). channels_in_order (numbers_of rows)) c.deref.ensures.value

pub returns-in_err-duplex-clause-writes : goal.returns-in_err-duplex-clause-writes
returns-in_err-duplex-clause-writes g c =
    let r = c.from_residual-in_err-duplex in
    let p = err_from_is_err_and r.result r.ensures.1 in
    rw (p.1, p.2) (none_writes (IsDuplexed (duplex_reading c.args.inputs.now)) (duplex_names (duplex_reading c.args.inputs.now)) _ _ tt)

pub run_loaded-requires-clause-channels : goal.run_loaded-requires-clause-channels
run_loaded-requires-clause-channels g c = c.deref-3.ensures.value ∙ c.in_ok-channels.ensures ∙ ap (λ (rows : List ChannelRow). channels_in_order (numbers_of rows)) c.deref.ensures.value

pub run_loaded-requires-clause-loaded : goal.run_loaded-requires-clause-loaded
run_loaded-requires-clause-loaded g c = c.in_ok-duplex.ensures

pub returns-clause-writes : goal.returns-clause-writes
returns-clause-writes g c = c.run_loaded.ensures.writes

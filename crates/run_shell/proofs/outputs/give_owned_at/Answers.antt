use Rattle.std.proofs.Common.{ap, ◌∙◌, ◌++◌}
use Rattle.run_shell.specs.Open.{Open}
use Rattle.run_shell.proofs.Fills.{set_names}
use Rattle.run_shell.proofs.Rests.{rests_set, on_ok}
use Rattle.run_shell.proofs.outputs.give_owned_at.Goals as goal

pub returns-clause-names : goal.returns-clause-names
returns-clause-names c =
    set_names c.args.files.now.items c.args.place _ c.give_owned.new.self c.requires (c.give_owned.ensures.name ∙ ap (λ (f : Open). f.name) c.index_mut-file.ensures.value)

pub returns-clause-given : goal.returns-clause-given
returns-clause-given c =
    on_ok c.give_owned.result (λ e. rests_set c.args.files.now.items c.args.place c.index_mut-file.result.now c.give_owned.new.self c.args.bytes.items c.requires (e ∙ ap (λ (f : Open). f.rest ++ c.args.bytes.items) c.index_mut-file.ensures.value)) c.give_owned.ensures.rest

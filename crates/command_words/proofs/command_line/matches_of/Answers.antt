use Rattle.std.proofs.Common.{ap, map, ◌∙◌, string_bytes, Global}
use Rattle.std.proofs.lemmas.Result.{IfErr-weaker, IfOk-weaker}
use Rattle.clap.specs.Words.{is_simple, takes, subcommand_of}
use Rattle.command_words.specs.Parser.{words_in, program_app, bare_app}
use Rattle.command_words.proofs.Reading.{are_read}
use Rattle.command_words.proofs.command_line.matches_of.Goals as goal

pub returns : goal.returns
returns c =
    let words = map (string_bytes {Z = Global}) c.args.words.now in
    let read = are_read words c.requires in
    let shape = c.in_ok-program.ensures {u = tt} ∙ ap (program_app bare_app) c.rows.ensures in
    let parse = c.try_get_matches_from in
    record {
      read = IfOk-weaker parse.result _ _ (λ m h. ap words_in ((h (ap is_simple shape ∙ read.simple)).1 ∙ ap (λ a. subcommand_of a words) shape) ∙ read.found) parse.ensures.matches;
      memory = IfErr-weaker parse.result _ _ (λ e h. h (ap (λ a. takes a words) shape ∙ read.taken)) parse.ensures.passes;
    }

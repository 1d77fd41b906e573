use Rattle.std.proofs.Common.{◌∙◌, ap, arith, length, replicate}
use Rattle.run_shell.specs.Rests.{join, rests_of}
use Rattle.run_shell.proofs.Rests.{join_given, on_ok}
use Rattle.words_files.specs.WordsFile.{words_file}
use Rattle.resend_commands.proofs.Accepting.{file_grown, words_there}
use Rattle.resend_commands.proofs.carrying.carry.Goals as goal

pub tail-words-requires : goal.tail-words-requires
tail-words-requires c =
    let before = ap length c.words-before.ensures in
    words_there c.args.resend.now c.do_events.new.resend (replicate c.args.run.count c.args.run.event) c.do_events.ensures.done _ c.words.ensures _ (omega (arith, before))

pub returns-clause-given : goal.returns-clause-given
returns-clause-given c =
    let rests = rests_of c.args.outputs.now in
    let now = rests_of c.give_words.new.outputs in
    on_ok c.give_words.result
    (λ given before was.
    join_given before rests now 0 (words_file c.tail-words.result.now) given
    ∙ file_grown c.args.resend.now c.do_events.new.resend (replicate c.args.run.count c.args.run.event) c.do_events.ensures.done _ c.words.ensures _ (ap length c.words-before.ensures) _ c.tail-words.ensures (join before rests) was)
    c.give_words.ensures.given

use Rattle.std.proofs.Common.{◌∙◌, ap}
use Rattle.clap.specs.Words.{App, app_of, with_subcommand}
use Rattle.command_words.proofs.Reading.{next_program}
use Rattle.command_words.proofs.command_line.program.Goals as goal

pub loop-i-preserved : goal.loop-i-preserved
loop-i-preserved c =
    next_program c.args.table.now c.loop-i.i _ (app_of c.loop-i.program) (app_of c.in_ok-program.program) c.loop-i-test.true
    (c.in_ok-program.ensures.shape c.in_ok-command.ensures.local ∙ ap (λ (a : App). with_subcommand (app_of c.loop-i.program) a.top) c.in_ok-command.ensures.shape) ∙ c.loop-i.invariant

use Rattle.std.proofs.Common.{◌≡◌, drop, map}
use Rattle.clap.specs.Words.{app_of}
use Rattle.command_words.specs.Table.{shown}
use Rattle.command_words.specs.Parser.{program_app, bare_app}
use Rattle.command_words.proofs.command_line.program.Given as goal

-- the rows that are left make the whole program of it
abbrev pub invariant-loop-i : goal.invariant-loop-i
invariant-loop-i l = program_app (app_of l.program) (map shown (drop l.i l.table)) ≡ program_app bare_app (map shown l.table)

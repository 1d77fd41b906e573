use Rattle.std.proofs.Common.{◌≡◌, drop, map}
use Rattle.command_words.specs.Table.{row_in, shown}
use Rattle.command_words.proofs.table.row_in.Given as goal

-- the rows that are left have the word's
abbrev pub invariant-loop-i : goal.invariant-loop-i
invariant-loop-i l = row_in (map shown (drop l.i l.table)) l.word ≡ row_in (map shown l.table) l.word

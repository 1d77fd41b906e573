use Rattle.std.proofs.Common.{◌≡◌, ◌++◌, List, take}
use Rattle.std.specs.List.{flat_map}
use Rattle.word_rules.specs.declared.fault.Fault.{Fault}
use Rattle.check_commands.specs.Table.{rule_line_of}
use Rattle.check_commands.specs.Tally.{counts_of}
use Rattle.check_commands.proofs.tally.put_rules.Given as goal

-- the lines of the rules before are there
abbrev pub invariant-loop-rule : goal.invariant-loop-rule
invariant-loop-rule l = (told : List Fault) → l.counts ≡ counts_of told → l.text.items ≡ l.fn.text.items ++ flat_map (rule_line_of told) (take l.rule-index l.rules)

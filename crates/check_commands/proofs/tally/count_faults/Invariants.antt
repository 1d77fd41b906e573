use Rattle.std.proofs.Common.{◌≡◌, ◌++◌, List, take}
use Rattle.word_rules.specs.declared.fault.Fault.{Fault}
use Rattle.check_commands.specs.Tally.{counts_of}
use Rattle.check_commands.proofs.tally.count_faults.Given as goal

-- the faults before are counted, too
abbrev pub invariant-loop-fault : goal.invariant-loop-fault
invariant-loop-fault l = (told : List Fault) → l.fn.counts ≡ counts_of told → l.counts ≡ counts_of (told ++ take l.fault-index l.faults)

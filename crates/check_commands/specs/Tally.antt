-- What the counts of faults stand for.
use Rattle.std.specs.Prelude.{ℕ, ◌≡◌, List, length, map}
use Rattle.word_rules.specs.declared.fault.Fault.{Fault}
use Rattle.check_commands.specs.declared.tally.Tally.{Tally}
use Rattle.word_rules.specs.Names.{all_rules}
use Rattle.check_commands.specs.Table.{faults_of}

-- how many of these faults each rule has, in the order of the rules
abbrev pub counts_of : List Fault → List ℕ
counts_of told = map (faults_of told) all_rules

-- these faults were counted
pub record IsTally (t : Tally) (told : List Fault) : Type 0 where
  pub total : t.total ≡ length told
  pub counts : t.counts ≡ counts_of told

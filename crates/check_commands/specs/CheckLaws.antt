-- What is known of what `check` makes.
use Rattle.std.specs.Prelude.{◌≡◌, ℕ, List, [], ◌∷◌, ◌++◌, Some, None}
use lib.Chars.{codes}
use Rattle.link_reports.specs.Lines.{line_end}
use Rattle.run_shell.specs.Work.{IsWork}
use Rattle.word_rules.specs.declared.fault.Fault.{Fault}
use Rattle.word_rules.specs.declared.rule.WordRule.TheVariants as rules
use Rattle.check_commands.specs.Table.{check_text, faults_table}
use Rattle.check_commands.specs.Check.{check_work, faults_name}

-- what is read comes to one outcome, where files hold bytes there is one, and no stream is held
abbrev pub CheckIsWork : Type 0
CheckIsWork = (name : List ℕ) → IsWork (check_work name)

-- a wrong CRC24, and later two faults of one burst word of channel 7
abbrev pub three_faults : List Fault
three_faults =
    record { word = 5; rule = rules.Crc; channel = None }
    ∷ record { word = 84; rule = rules.Open; channel = Some 7 }
    ∷ record { word = 84; rule = rules.Channel; channel = Some 7 }
    ∷ []

pub record WorkedTables : Type 0 where
  pub none : faults_table [] ≡ codes "word,rule,channel" ++ line_end
  pub three : faults_table three_faults ≡ codes "word,rule,channel" ++ (line_end ++ (codes "5,crc,-" ++ (line_end ++ (codes "84,open,7" ++ (line_end ++ (codes "84,channel,7" ++ line_end))))))
  pub name : faults_name (codes "o") ≡ codes "o.faults.csv"

-- each rule that has faults has a line, in the order of the rules
pub record WorkedTexts : Type 0 where
  pub none : check_text 0 [] ≡ codes "words 0" ++ (line_end ++ (codes "faults 0" ++ line_end))
  pub three : check_text 168 three_faults
      ≡ codes "words 168" ++ (line_end ++ (codes "faults 3" ++ (line_end ++ (codes "rule crc=1" ++ (line_end ++ (codes "rule open=1" ++ (line_end ++ (codes "rule channel=1" ++ line_end))))))))

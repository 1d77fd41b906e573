-- The table of faults, and the text that counts them.
use Rattle.std.specs.Prelude.{ℕ, ◌==◌, cond, List, [], ◌∷◌, ◌++◌, length, map, count_by}
use Rattle.std.specs.List.{flat_map}
use Rattle.std.specs.Fmt.{decimal}
use lib.Chars.{codes}
use Rattle.csv_rows.specs.Rows.{Row}
use Rattle.csv_rows.specs.Written.{rows_text}
use Rattle.link_reports.specs.Lines.{count_line, line_end, number_or_stroke, told}
use Rattle.word_rules.specs.Names.{all_rules, name_of, rule_place}
use Rattle.word_rules.specs.declared.fault.Fault.{Fault}
use Rattle.word_rules.specs.declared.rule.WordRule.{WordRule}

-- ---- the table

-- a fault's row: the number of its word, the name of its rule, and the number of its channel or a stroke
abbrev pub fault_fields : Fault → Row
fault_fields f = decimal f.word ∷ name_of f.rule ∷ number_or_stroke f.channel ∷ []

abbrev pub heading : Row
heading = codes "word" ∷ codes "rule" ∷ codes "channel" ∷ []

-- the rows of faults, without the heading
abbrev pub fault_rows : List Fault → List ℕ
fault_rows faults = rows_text (map fault_fields faults)

-- the heading, and a row for each fault, in order
abbrev pub faults_table : List Fault → List ℕ
faults_table faults = rows_text (heading ∷ []) ++ fault_rows faults

-- ---- the text

-- how many of these faults break a rule
abbrev pub faults_of : List Fault → WordRule → ℕ
faults_of faults rule = count_by (λ (f : Fault). rule_place f.rule == rule_place rule) faults

-- how many faults of a rule there are
abbrev pub rule_line : WordRule → ℕ → List ℕ
rule_line rule count = codes "rule " ++ (name_of rule ++ told (codes "=") count line_end)

-- the line of a rule that has faults
abbrev pub rule_line_of : List Fault → WordRule → List ℕ
rule_line_of faults rule = cond (faults_of faults rule == 0) [] (rule_line rule (faults_of faults rule))

-- how many words and how many faults there are, and then how many of each rule that has faults
abbrev pub check_text : ℕ → List Fault → List ℕ
check_text words faults =
    count_line (codes "words") words
    ++ (count_line (codes "faults") (length faults)
    ++ flat_map (rule_line_of faults) all_rules)

-- The names of the rules, and their order.
use Rattle.std.specs.Prelude.{ℕ, List, [], ◌∷◌}
use lib.Chars.{codes}
use Rattle.word_rules.specs.declared.rule.WordRule.{WordRule}
use Rattle.word_rules.specs.declared.rule.WordRule.TheVariants as rules

-- the rule's name, as it stands in the table of faults
abbrev pub name_of : WordRule → List ℕ
name_of rules.Bad = codes "bad"
name_of rules.Control = codes "control"
name_of rules.Crc = codes "crc"
name_of rules.Data = codes "data"
name_of rules.Max = codes "max"
name_of rules.Empty = codes "empty"
name_of rules.Short = codes "short"
name_of rules.End = codes "end"
name_of rules.Fill = codes "fill"
name_of rules.Part = codes "part"
name_of rules.Min = codes "min"
name_of rules.Sop = codes "sop"
name_of rules.Open = codes "open"
name_of rules.Channel = codes "channel"
name_of rules.Long = codes "long"
name_of rules.Idle = codes "idle"
name_of rules.Multi = codes "multi"
name_of rules.Calendar = codes "calendar"
name_of rules.Off = codes "off"

-- the rules, in the order in which the faults of one word are told
abbrev pub all_rules : List WordRule
all_rules =
    rules.Bad ∷ rules.Control ∷ rules.Crc ∷ rules.Data ∷ rules.Max ∷ rules.Empty ∷ rules.Short ∷ rules.End ∷ rules.Fill ∷ rules.Part
    ∷ rules.Min ∷ rules.Sop ∷ rules.Open ∷ rules.Channel ∷ rules.Long ∷ rules.Idle ∷ rules.Multi ∷ rules.Calendar ∷ rules.Off ∷ []

-- the place of a rule among them, from 0
abbrev pub rule_place : WordRule → ℕ
rule_place rules.Bad = 0
rule_place rules.Control = 1
rule_place rules.Crc = 2
rule_place rules.Data = 3
rule_place rules.Max = 4
rule_place rules.Empty = 5
rule_place rules.Short = 6
rule_place rules.End = 7
rule_place rules.Fill = 8
rule_place rules.Part = 9
rule_place rules.Min = 10
rule_place rules.Sop = 11
rule_place rules.Open = 12
rule_place rules.Channel = 13
rule_place rules.Long = 14
rule_place rules.Idle = 15
rule_place rules.Multi = 16
rule_place rules.Calendar = 17
rule_place rules.Off = 18

-- The numbers of rules and of kinds of words, and the results of words that are refused.
use Rattle.std.specs.Prelude.{ℕ, ◌+◌, ◌==◌, cond, Option, Some, None}
use Rattle.lk_base.specs.declared.word.RxWord.{RxWord}
use Rattle.lk_base.specs.declared.word.RxWord.TheVariants as received
use Rattle.live_checker.specs.declared.misuse.Misuse.{Misuse}
use Rattle.live_checker.specs.declared.misuse.Misuse.TheVariants as misuses
use Rattle.word_rules.specs.declared.rule.WordRule.{WordRule}
use Rattle.word_rules.specs.Names.{rule_place}
use Rattle.c_parts.specs.Codes.{finished, too_many, waiting}

-- 1 is data, 2 is control, and 3 is a Bad word, whose number is not looked at
abbrev pub word_of : ℕ → ℕ → Option RxWord
word_of kind number =
    cond (kind == 1) (Some (received.Data number)) (cond (kind == 2) (Some (received.Control number)) (cond (kind == 3) (Some received.Bad) None))

-- of a word, or a word of flow control, that is refused
abbrev pub misuse_code : Misuse → ℕ
misuse_code misuses.Finished = finished
misuse_code misuses.Waiting = waiting
misuse_code misuses.TooMany = too_many

-- the place of the rule in their order, from 1
abbrev pub rule_code : WordRule → ℕ
rule_code rule = rule_place rule + 1

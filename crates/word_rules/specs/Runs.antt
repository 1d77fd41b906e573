-- A run of Data words, one after another.
use Rattle.std.specs.Prelude.{ℕ, ◌+◌, ◌/◌, nat_le, nat_lt, Bool, ◌&&◌, ◌||◌, is_some, List, [], ◌∷◌}
use Rattle.lk_base.specs.declared.word.RxWord.{RxWord}
use Rattle.lk_base.specs.declared.word.RxWord.TheVariants.{Data}
use Rattle.word_rules.specs.ByFields.{data_by}
use Rattle.word_rules.specs.declared.before.Before.{Before}
use Rattle.word_rules.specs.declared.limits.WordLimits.{WordLimits}

-- the words before a place once Data words of these numbers came, the latest first
abbrev pub run_after : List RxWord → List ℕ → List RxWord
run_after earlier [] = earlier
run_after earlier (x ∷ run) = run_after (Data x ∷ earlier) run

-- the last of these numbers, or another where there is none
abbrev pub last_or : ℕ → List ℕ → ℕ
last_or d [] = d
last_or d (x ∷ run) = last_or x run

-- one of so many Data words may break a rule
abbrev pub run_by : WordLimits → Before → ℕ → Bool
run_by s b count = data_by b || (is_some b.burst && (nat_le b.size (s.burst_max / 8) && nat_lt (s.burst_max / 8) (b.size + count)))

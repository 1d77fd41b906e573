-- What is kept of the calendar's place, and what it stands for.
use Rattle.std.specs.Prelude.{ℕ, ◌≡◌, ◌+◌, ◌==◌, nat_lt, Bool, false, ◌&&◌, ◌||◌, not, cond, List, length, position, Option, Some}
use Rattle.std.specs.Option.{option_map, option_map_or}
use Rattle.lk_base.specs.Fields.{is_control_word}
use Rattle.lk_base.specs.Checksum.{differ}
use Rattle.word_rules.specs.declared.due.Due.{Due}
use Rattle.word_rules.specs.Rules.{has_reset, calendar_words, has_zero_past_last}

-- it stands for these accepted words, the last first
pub record IsDue (d : Due) (accepted : List ℕ) : Type 0 where
  pub after_reset : d.after_reset ≡ position has_reset accepted
  pub count : d.count ≡ length accepted

-- how many words come after the last one with Reset Calendar, with the one at the place
abbrev pub since_by : Due → Option ℕ
since_by d = option_map (λ k. k + 1) d.after_reset

abbrev pub as_due_by : ℕ → Due → ℕ → Bool
as_due_by entries d x =
    option_map_or (λ n. not (differ (has_reset x) (n == calendar_words entries)))
    (since_by d)
    (has_reset x || nat_lt d.count (calendar_words entries))

-- which sixteen entries x carries
abbrev pub entries_by : Due → ℕ → Option ℕ
entries_by d x = cond (has_reset x) (Some 0) (since_by d)

abbrev pub calendar_by : ℕ → Due → ℕ → Bool
calendar_by entries d x =
    is_control_word x && (not (as_due_by entries d x) || option_map_or (has_zero_past_last entries x) (entries_by d x) false)

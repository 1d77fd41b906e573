-- The laws on faults that are told as words come.
use Rattle.std.specs.Prelude.{ℕ, ◌≡◌, suc, Bool, true, false, not, List, [], ◌∷◌, ◌++◌, filter, Some}
use Rattle.lk_base.specs.declared.word.RxWord.{RxWord}
use Rattle.receive_model.specs.Lists.{first_of}
use Rattle.stream_model.specs.declared.rows.FlowRow.{FlowRow}
use Rattle.word_rules.specs.declared.fault.Fault.{Fault}
use Rattle.word_rules.specs.declared.limits.WordLimits.{WordLimits}
use Rattle.word_rules.specs.declared.rule.WordRule.{WordRule}
use Rattle.word_rules.specs.declared.rule.WordRule.TheVariants as rules
use Rattle.word_rules.specs.Faults.{Plan, faults, faults_at}
use Rattle.live_checker.specs.Live.{live_faults}
use Rattle.live_checker.specs.States.{State}
use Rattle.live_checker.specs.Standing.{Checked, Checks, nothing_checked, with_heard, with_word}

-- the one rule of which the word after a word decides
abbrev pub is_empty_rule : WordRule → Bool
is_empty_rule rules.Bad = false
is_empty_rule rules.Control = false
is_empty_rule rules.Crc = false
is_empty_rule rules.Data = false
is_empty_rule rules.Max = false
is_empty_rule rules.Empty = true
is_empty_rule rules.Short = false
is_empty_rule rules.End = false
is_empty_rule rules.Fill = false
is_empty_rule rules.Part = false
is_empty_rule rules.Min = false
is_empty_rule rules.Sop = false
is_empty_rule rules.Open = false
is_empty_rule rules.Channel = false
is_empty_rule rules.Long = false
is_empty_rule rules.Idle = false
is_empty_rule rules.Multi = false
is_empty_rule rules.Calendar = false
is_empty_rule rules.Off = false

-- the rows of `empty`
abbrev pub empties : List Fault → List Fault
empties rows = filter (λ (f : Fault). is_empty_rule f.rule) rows

-- the rows of all other rules
abbrev pub others : List Fault → List Fault
others rows = filter (λ (f : Fault). not (is_empty_rule f.rule)) rows

-- two lists have the same rows of `empty`, in the same order, and the same rows of all other rules, in the same order
pub record AreSameRows (one other : List Fault) : Type 0 where
  pub same_empties : empties one ≡ empties other
  pub same_others : others one ≡ others other

-- the rows that words show as they come are their faults
abbrev pub LiveRowsAreRows : Type 0
LiveRowsAreRows = (p : Plan) (words : List RxWord) → AreSameRows (live_faults p words) (faults p words)

-- ---- the order of the rows

-- the row of `empty` of the word before a place, if the word at the place shows it
abbrev pub empty_before : Plan → List RxWord → RxWord → List Fault
empty_before p [] word = []
empty_before p (before ∷ earlier) word = empties (faults_at p earlier before (Some word))

-- the rows of these words in the order in which they come: for each word, the row of `empty` of the word before it, and then all its
-- other rows
abbrev pub rows_in_order : Plan → List RxWord → List RxWord → List Fault
rows_in_order p earlier [] = []
rows_in_order p earlier (word ∷ words) = (empty_before p earlier word ++ others (faults_at p earlier word (first_of words))) ++ rows_in_order p (word ∷ earlier) words

-- the rows that words show as they come have this order
abbrev pub LiveRowsAreInOrder : Type 0
LiveRowsAreInOrder = (p : Plan) (words : List RxWord) → live_faults p words ≡ rows_in_order p [] words

-- ---- words and words of flow control, in the order in which they are given

pub data Input : Type 0 where
  -- the next word
  GiveWord : RxWord → Input
  -- a word of flow control, which counts from the next word on
  GiveFlow : ℕ → Input

-- the words among them
abbrev pub words_in : List Input → List RxWord
words_in [] = []
words_in (GiveWord word ∷ inputs) = word ∷ words_in inputs
words_in (GiveFlow heard ∷ inputs) = words_in inputs

-- each word of flow control among them as a row: its slot is the number of words that come before it, after n words
abbrev pub rows_in : ℕ → List Input → List FlowRow
rows_in n [] = []
rows_in n (GiveWord word ∷ inputs) = rows_in (suc n) inputs
rows_in n (GiveFlow heard ∷ inputs) = record { slot = n; word = heard } ∷ rows_in n inputs

-- what was given to a checker, with these given after it
abbrev pub after : List Input → Checked → Checked
after [] x = x
after (GiveWord word ∷ inputs) x = after inputs (with_word word x)
after (GiveFlow heard ∷ inputs) x = after inputs (with_heard heard x)

-- the same, if these faults were given back, and the words were ended or not
abbrev pub told_of : Checked → List Fault → Bool → Checked
told_of x given finished = record { plan = x.plan; words = x.words; given = given; finished = finished }

-- the plan with the rows
abbrev pub plan_with : WordLimits → List ℕ → List ℕ → List FlowRow → Plan
plan_with limits channels entries rows = record { limits = limits; channels = channels; entries = entries; flow = rows }

-- What a checker gave, and then what is due, are the faults of the words by the plan with the rows.
abbrev pub LawOnCalls : Type 0
LawOnCalls = (limits : WordLimits) (channels entries : List ℕ) (inputs : List Input) (given : List Fault) (finished : Bool) (t : State) →
    Checks t (told_of (after inputs (nothing_checked limits channels entries)) given finished) →
    AreSameRows (given ++ t.due) (faults (plan_with limits channels entries (rows_in 0 inputs)) (words_in inputs))

-- Any calls on a live checker, in any order, misused ones among them.
use Rattle.std.specs.Prelude.{ℕ, ◌≡◌, Bool, true, false, ◌||◌, List, [], ◌∷◌, ◌++◌, map, Option, Some, None, Result, Ok, Err}
use Rattle.lk_base.specs.declared.word.RxWord.{RxWord}
use Rattle.lk_base.specs.declared.word.RxWord.TheVariants.{Data}
use Rattle.word_rules.specs.declared.fault.Fault.{Fault}
use Rattle.word_rules.specs.declared.limits.WordLimits.{WordLimits}
use Rattle.word_rules.specs.Faults.{faults}
use Rattle.live_checker.specs.declared.misuse.Misuse.{Misuse}
use Rattle.live_checker.specs.Calls.{IsFinish, IsFlow, IsNext, IsRun, IsWord, word_refusal}
use Rattle.live_checker.specs.Laws.{AreSameRows, Input, GiveFlow, GiveWord, after, plan_with, rows_in, told_of, words_in}
use Rattle.live_checker.specs.Standing.{Checked, Checks, nothing_checked}
use Rattle.live_checker.specs.States.{State}

-- a call, with its arguments and its answer
pub data Call : Type 0 where
  Word : (word : RxWord) (answer : Result (Unit {0}) Misuse) → Call
  Run : (run : List ℕ) (answer : Bool) → Call
  Flow : (heard : ℕ) (answer : Result (Unit {0}) Misuse) → Call
  Finish : Call
  Refusal : (answer : Option Misuse) → Call
  Next : (answer : Option Fault) → Call

-- a call leads from one state to another
abbrev pub Leads : Call → State → State → Type 0
Leads (Word word answer) t u = IsWord t u word answer
Leads (Run run answer) t u = IsRun t u run answer
Leads (Flow heard answer) t u = IsFlow t u heard answer
Leads Finish t u = IsFinish t u
Leads (Refusal answer) t u = ((x : Checked) → Checks t x → answer ≡ word_refusal x) × (u ≡ t)
Leads (Next answer) t u = IsNext t u answer

-- calls one after another
abbrev pub AreCalls : State → List Call → State → Type 0
AreCalls t [] u = t ≡ u
AreCalls t (call ∷ calls) u = (mid : State) × Leads call t mid × AreCalls mid calls u

-- what a call gave the checker: words and words of flow control, but none that was refused
abbrev pub inputs_by : Call → List Input
inputs_by (Word word (Ok done)) = GiveWord word ∷ []
inputs_by (Word word (Err why)) = []
inputs_by (Run run true) = map (λ (n : ℕ). GiveWord (Data n)) run
inputs_by (Run run false) = []
inputs_by (Flow heard (Ok done)) = GiveFlow heard ∷ []
inputs_by (Flow heard (Err why)) = []
inputs_by Finish = []
inputs_by (Refusal answer) = []
inputs_by (Next answer) = []

-- the fault that a call gave back
abbrev pub got_by : Call → List Fault
got_by (Word word answer) = []
got_by (Run run answer) = []
got_by (Flow heard answer) = []
got_by Finish = []
got_by (Refusal answer) = []
got_by (Next (Some fault)) = fault ∷ []
got_by (Next None) = []

abbrev pub is_end : Call → Bool
is_end (Word word answer) = false
is_end (Run run answer) = false
is_end (Flow heard answer) = false
is_end Finish = true
is_end (Refusal answer) = false
is_end (Next answer) = false

-- all that these calls gave, all that they gave back, and whether they ended the words
abbrev pub all_inputs : List Call → List Input
all_inputs [] = []
all_inputs (call ∷ calls) = inputs_by call ++ all_inputs calls

abbrev pub all_got : List Call → List Fault
all_got [] = []
all_got (call ∷ calls) = got_by call ++ all_got calls

abbrev pub are_ended : List Call → Bool
are_ended [] = false
are_ended (call ∷ calls) = is_end call || are_ended calls

-- what a new checker was given by these calls
abbrev pub checked_by : WordLimits → List ℕ → List ℕ → List Call → Checked
checked_by limits channels entries calls = told_of (after (all_inputs calls) (nothing_checked limits channels entries)) (all_got calls) (are_ended calls)

-- After any calls a checker that was new stands for what they gave: the premise of the law on calls.
abbrev pub CallsCheck : Type 0
CallsCheck = (limits : WordLimits) (channels entries : List ℕ) (calls : List Call) (t u : State) →
    Checks t (nothing_checked limits channels entries) → AreCalls t calls u → Checks u (checked_by limits channels entries calls)

-- After any calls the faults that they gave back, and then those that are due, are those of all words that were taken, by the plan with a
-- row for each word of flow control that was taken.
abbrev pub CallsTellFaults : Type 0
CallsTellFaults = (limits : WordLimits) (channels entries : List ℕ) (calls : List Call) (t u : State) →
    Checks t (nothing_checked limits channels entries) → AreCalls t calls u →
    AreSameRows (all_got calls ++ u.due) (faults (plan_with limits channels entries (rows_in 0 (all_inputs calls))) (words_in (all_inputs calls)))

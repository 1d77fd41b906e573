-- What a live checker was given, and what it gave.
use Rattle.std.specs.Prelude.{ℕ, ◌≡◌, ◌≤◌, ◌^◌, Bool, true, false, List, [], ◌∷◌, ◌++◌, length, reverse}
use Rattle.lk_base.specs.declared.word.RxWord.{RxWord}
use Rattle.word_rules.specs.declared.fault.Fault.{Fault}
use Rattle.word_rules.specs.declared.limits.WordLimits.{WordLimits}
use Rattle.word_rules.specs.Checks.{Keeps}
use Rattle.word_rules.specs.Faults.{Plan, with_flow}
use Rattle.word_rules.specs.Flows.{InOrder, NoneLater, with_row}
use Rattle.live_checker.specs.Live.{live_faults}
use Rattle.live_checker.specs.States.{State}

pub record Checked : Type 0 where
  -- the plan, whose rows of flow control are the words that were heard: the slot of each is the number of words that came before it
  pub plan : Plan
  -- the words that came
  pub words : List RxWord
  -- the faults that were given
  pub given : List Fault
  -- the words were ended
  pub finished : Bool

abbrev pub nothing_checked : WordLimits → List ℕ → List ℕ → Checked
nothing_checked limits channels entries = record {
  plan = record { limits = limits; channels = channels; entries = entries; flow = [] };
  words = [];
  given = [];
  finished = false;
}

-- a word more came
abbrev pub with_word : RxWord → Checked → Checked
with_word word x = record { plan = x.plan; words = x.words ++ word ∷ []; given = x.given; finished = x.finished }

-- these words more came
abbrev pub with_words : List RxWord → Checked → Checked
with_words [] x = x
with_words (word ∷ words) x = with_words words (with_word word x)

-- a word of flow control more was heard: it counts from the next word on
abbrev pub with_heard : ℕ → Checked → Checked
with_heard word x = record { plan = with_flow x.plan (with_row x.plan.flow (length x.words) word); words = x.words; given = x.given; finished = x.finished }

-- a fault more was given
abbrev pub with_given : Fault → Checked → Checked
with_given fault x = record { plan = x.plan; words = x.words; given = x.given ++ fault ∷ []; finished = x.finished }

-- the words were ended
abbrev pub with_end : Checked → Checked
with_end x = record { plan = x.plan; words = x.words; given = x.given; finished = true }

pub record Checks (t : State) (x : Checked) : Type 0 where
  pub keeps : Keeps t.checker x.plan (reverse x.words)
  pub few : length x.words ≤ 2 ^ 57
  -- no word of flow control counts from a later word on than the next
  pub heard : NoneLater x.plan.flow (length x.words)
  pub in_order : InOrder x.plan.flow
  -- what was given, and then what is due, are the faults that the words show
  pub told : x.given ++ t.due ≡ live_faults x.plan x.words
  pub ended : t.finished ≡ x.finished

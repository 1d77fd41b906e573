-- What the calls on a live checker do.
use Rattle.std.specs.Prelude.{ℕ, ◌≡◌, ◌^◌, Bool, true, false, cond, nat_lt, List, [], ◌∷◌, length, map, Option, Some, None, Result, Ok, Err}
use Rattle.std.specs.Option.{option_or}
use Rattle.lk_base.specs.declared.word.RxWord.{RxWord}
use Rattle.lk_base.specs.declared.word.RxWord.TheVariants.{Data}
use Rattle.word_rules.specs.declared.fault.Fault.{Fault}
use Rattle.live_checker.specs.declared.misuse.Misuse.{Misuse}
use Rattle.live_checker.specs.declared.misuse.Misuse.TheVariants as misuses
use Rattle.live_checker.specs.Live.{live_faults}
use Rattle.live_checker.specs.States.{State}
use Rattle.live_checker.specs.Standing.{Checked, Checks, with_end, with_given, with_heard, with_word, with_words}

-- faults are due: fewer were given than the words show
abbrev pub is_waiting : Checked → Bool
is_waiting x = nat_lt (length x.given) (length (live_faults x.plan x.words))

-- why a word of flow control is refused
abbrev pub flow_refusal : Checked → Option Misuse
flow_refusal x = cond x.finished (Some misuses.Finished) (cond (is_waiting x) (Some misuses.Waiting) None)

-- why a word is refused
abbrev pub word_refusal : Checked → Option Misuse
word_refusal x = option_or (flow_refusal x) (cond (nat_lt (length x.words) (2 ^ 57)) None (Some misuses.TooMany))

-- a word is taken; or it is refused so, and nothing has changed
abbrev pub IsWord : State → State → RxWord → Result (Unit {0}) Misuse → Type 0
IsWord t u word (Ok done) = (x : Checked) → Checks t x → (word_refusal x ≡ None) × Checks u (with_word word x)
IsWord t u word (Err why) = ((x : Checked) → Checks t x → word_refusal x ≡ Some why) × (u ≡ t)

-- none of these words is refused, if they are given one after another
abbrev pub AreTaken : List RxWord → Checked → Type 0
AreTaken [] x = Unit {0}
AreTaken (word ∷ words) x = (word_refusal x ≡ None) × AreTaken words (with_word word x)

-- Data words of these numbers are taken, one after another; or none is, and nothing has changed
abbrev pub IsRun : State → State → List ℕ → Bool → Type 0
IsRun t u run true = (x : Checked) → Checks t x → AreTaken (map (λ (n : ℕ). Data n) run) x × Checks u (with_words (map (λ (n : ℕ). Data n) run) x)
IsRun t u run false = u ≡ t

-- a word of flow control is taken; or it is refused so, and nothing has changed
abbrev pub IsFlow : State → State → ℕ → Result (Unit {0}) Misuse → Type 0
IsFlow t u word (Ok done) = (x : Checked) → Checks t x → (flow_refusal x ≡ None) × Checks u (with_heard word x)
IsFlow t u word (Err why) = ((x : Checked) → Checks t x → flow_refusal x ≡ Some why) × (u ≡ t)

-- the words are ended
abbrev pub IsFinish : State → State → Type 0
IsFinish t u = (x : Checked) → Checks t x → Checks u (with_end x)

-- the first fault that is due is given; or none is due, and nothing has changed
abbrev pub IsNext : State → State → Option Fault → Type 0
IsNext t u (Some fault) = (x : Checked) → Checks t x → (is_waiting x ≡ true) × Checks u (with_given fault x)
IsNext t u None = ((x : Checked) → Checks t x → is_waiting x ≡ false) × (u ≡ t)

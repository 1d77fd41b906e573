-- What a call does by a handle of a checker.
use Rattle.std.specs.Prelude.{ℕ, ◌≡◌, List, Option, Some, None, Result, Ok, Err}
use Rattle.lk_base.specs.declared.word.RxWord.{RxWord}
use Rattle.csv_rows.specs.Rows.{rows_of}
use Rattle.plan_errors.specs.declared.error.PlanError.{PlanError}
use Rattle.link_plan.specs.Listing.{channels_in_order, numbers_of}
use Rattle.link_plan.specs.Plan.{plan_of}
use Rattle.link_plan.specs.Views.{GivesPlan, plan_value}
use Rattle.link_plan.specs.declared.plan.Plan.{Plan}
use Rattle.duplex_model.specs.DuplexRun.{heard_word}
use Rattle.word_rules.specs.declared.fault.Fault.{Fault}
use Rattle.word_rules.specs.Limits.{limits_of}
use Rattle.live_checker.specs.declared.misuse.Misuse.{Misuse}
use Rattle.live_checker.specs.Calls.{IsFinish, IsFlow, IsNext, IsWord, word_refusal}
use Rattle.live_checker.specs.Standing.{Checked, Checks, nothing_checked}
use Rattle.live_checker.specs.States.{State}
use Rattle.c_parts.specs.Codes.{done, in_use, no_checker, out_of_range, plan_code}
use Rattle.c_parts.specs.OnHeld.{OnHeld}
use Rattle.c_parts.specs.Refusals.{IsRefused, of_row, refusal_of}
use Rattle.c_parts.specs.declared.refusal.Refusal.{Refusal}
use Rattle.c_checker.specs.Codes.{misuse_code, word_of}
use Rattle.c_checker.specs.Faults.{fault_told, no_fault}
use Rattle.c_checker.specs.Many.{GivesWords, asked}
use Rattle.c_checker.specs.declared.fault.CFault.{CFault}
use Rattle.c_checker.specs.declared.many.CWord.{CWord}

-- a checker by the rules of a plan, its listed channels and its calendar, to which nothing came
abbrev pub IsCheckerOf : Plan → State → Type 0
IsCheckerOf plan t = Checks t (nothing_checked (limits_of (plan_value plan)) (channels_in_order (numbers_of plan.channels.items)) plan.entries.items)

-- it is that of the plan of these bytes
abbrev pub IsCheckerOfPlan : List ℕ → State → Type 0
IsCheckerOfPlan bytes t = (plan : Plan) × GivesPlan (Ok plan) (plan_of (rows_of bytes)) × IsCheckerOf plan t

abbrev pub OpensChecker : List ℕ → Option State → ℕ → Refusal → Type 0
OpensChecker plan (Some t) code refusal = IsCheckerOfPlan plan t × (code ≡ done) × (refusal ≡ of_row 0 0)
OpensChecker plan None code refusal = (why : PlanError) × IsRefused plan why × (code ≡ plan_code why) × (refusal ≡ refusal_of why)

-- a handle that has a checker keeps it
abbrev pub MakesChecker : Option State → Option State → List ℕ → ℕ → Refusal → Type 0
MakesChecker None new plan code refusal = OpensChecker plan new code refusal
MakesChecker (Some t) new plan code refusal = (new ≡ Some t) × (code ≡ in_use) × (refusal ≡ of_row 0 0)

-- afterwards there is no checker
abbrev pub FreesChecker : Option State → Option State → ℕ → Type 0
FreesChecker None new code = (new ≡ None) × (code ≡ no_checker)
FreesChecker (Some t) new code = (new ≡ None) × (code ≡ done)

abbrev pub GivesResult : Result (Unit {0}) Misuse → ℕ → Type 0
GivesResult (Ok u) code = code ≡ done
GivesResult (Err why) code = code ≡ misuse_code why

-- why a number that is no kind of a word is refused: as a word would be, or else for itself
abbrev pub kind_code : Option Misuse → ℕ
kind_code (Some why) = misuse_code why
kind_code None = out_of_range

-- a word is given; or there is none of its kind, and nothing changes
abbrev pub GivesKind : State → State → Option RxWord → ℕ → Type 0
GivesKind t u (Some word) code = (result : Result (Unit {0}) Misuse) × IsWord t u word result × GivesResult result code
GivesKind t u None code = (u ≡ t) × ((x : Checked) → Checks t x → code ≡ kind_code (word_refusal x))

abbrev pub GivesWord : Option State → Option State → ℕ → ℕ → ℕ → Type 0
GivesWord old new kind number code = OnHeld (code ≡ no_checker) (λ (t u : State). GivesKind t u (word_of kind number) code) old new

abbrev pub GivesMany : Option State → Option State → List CWord → ℕ → ℕ → Type 0
GivesMany old new words code taken = OnHeld ((code ≡ no_checker) × (taken ≡ 0)) (λ (t u : State). GivesWords t u (asked words) code taken) old new

-- the word is one that the caller has verified: it tells what it says, with the checksum of itself alone
abbrev pub HearsFlow : Option State → Option State → ℕ → ℕ → Type 0
HearsFlow old new word code = OnHeld (code ≡ no_checker) (λ (t u : State). (result : Result (Unit {0}) Misuse) × IsFlow t u (heard_word word) result × GivesResult result code) old new

abbrev pub FinishesWords : Option State → Option State → ℕ → Type 0
FinishesWords old new code = OnHeld (code ≡ no_checker) (λ (t u : State). IsFinish t u × (code ≡ done)) old new

abbrev pub GivesFault : Option State → Option State → ℕ → CFault → Type 0
GivesFault old new code told = OnHeld ((code ≡ no_checker) × (told ≡ no_fault)) (λ (t u : State). (result : Option Fault) × IsNext t u result × (code ≡ done) × (told ≡ fault_told result)) old new

-- What `stripe FILE` means: the words of a plan's words file become the files of the lanes that carry them.
use Rattle.std.specs.Prelude.{◌≡◌, ◌⊎◌, ◌<◌, ◌%◌, ℕ, List, ◌++◌, length, replicate, Result, Ok, MatchResult}
use Rattle.lk_base.specs.Link.{Settings, group_of}
use Rattle.lk_base.specs.declared.word.Word.{Word}
use Rattle.lk_base.specs.declared.word.Word.TheVariants.{Control}
use Rattle.lk_outside.specs.Files.{Files}
use Rattle.link_plan.specs.Plan.{PlanValue}
use Rattle.link_reports.specs.Lines.{slots_line}
use Rattle.plan_inputs.specs.Inputs.{plan_in}
use Rattle.run_stops.specs.Reading.{Refusal, behind}
use Rattle.run_shell.specs.declared.status.Status.TheVariants.{Done}
use Rattle.run_shell.specs.Names.{words_name, lane_name}
use Rattle.run_shell.specs.Outcome.{Outcome}
use Rattle.run_shell.specs.Meaning.{Meaning}
use Rattle.run_shell.specs.Work.{Work, meaning_by}
use Rattle.stream_commands.specs.Outputs.{AreLaneOutputs}
use Rattle.lane_commands.specs.SentWords.{sent_words_in}

-- ---- what is read

-- a plan and the words of its words file
pub record StripeInputs : Type 0 where
  pub plan : PlanValue
  pub words : List Word

abbrev pub with_words : Files → PlanValue → Result StripeInputs Refusal
with_words files plan = behind (sent_words_in files (words_name plan.out)) (λ words. Ok (record { plan = plan; words = words }))

-- the plan in the file of this name, and after it the words of its words file
abbrev pub plan_words_in : Files → List ℕ → Result StripeInputs Refusal
plan_words_in files name = behind (plan_in files name) (with_words files)

-- the plan's own file, and, if it is accepted, its words file
abbrev pub IsReadFor : List ℕ → Files → List ℕ → Type 0
IsReadFor name files q = (q ≡ name) ⊎ MatchResult (plan_in files name) (λ plan. q ≡ words_name plan.out) (λ r. ⊥)

-- ---- what is made of it

-- an idle that resets the calendar, with all flow bits 1 and the CRC24 of itself alone
abbrev pub filler : Word
filler = Control 0x81FF_FF00_0018_8177

-- the stream that lanes of these settings carry for these words: the words, and after them as many fillers as make its length
-- a multiple of the group, fewer than a group
pub record Stripes (s : Settings) (words stream : List Word) : Type 0 where
  pub fillers : ℕ
  pub few : fillers < group_of s
  pub is : stream ≡ words ++ replicate fillers filler
  pub whole : length stream % group_of s ≡ 0

-- the lanes of that stream, lane 0 first, and its length
pub record IsStriped (i : StripeInputs) (o : Outcome) : Type 0 where
  pub stream : List Word
  pub stripes : Stripes i.plan.settings i.words stream
  pub status : o.status ≡ Done
  pub files : AreLaneOutputs i.plan.settings i.plan.out stream o.files
  pub text : o.text ≡ slots_line (length stream)

-- The words of the plan's words file become the files of its lanes, under names that begin with its `out`. No stream is held.
abbrev pub stripe_work : List ℕ → Work
stripe_work name = record {
  Inputs = StripeInputs;
  inputs_in = λ files. plan_words_in files name;
  IsMade = IsStriped;
  IsHeld = λ i. ⊥;
  Creates = λ i q. (lane : ℕ) × (lane < i.plan.settings.lanes) × (q ≡ lane_name i.plan.out lane);
  Names = IsReadFor name;
  IsReadLate = λ files q. ⊥;
}

abbrev pub stripe_meaning : List ℕ → Meaning
stripe_meaning name = meaning_by (stripe_work name)

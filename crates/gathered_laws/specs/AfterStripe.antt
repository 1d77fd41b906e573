-- The law on `gather` after `stripe`.
use Rattle.std.specs.Prelude.{◌≡◌, ℕ, List, map, Ok, Some}
use Rattle.lk_base.specs.Words.{as_sent}
use Rattle.lk_base.specs.declared.word.Word.{Word}
use Rattle.lk_outside.specs.Files.{Files, AreBytes}
use Rattle.lane_words.specs.WordsFile.{rx_words_file}
use Rattle.run_shell.specs.Names.{words_name}
use Rattle.run_shell.specs.Outcome.{Outcome, content_of}
use Rattle.stream_commands.specs.Outputs.{AreLaneOutputs}
use Rattle.lane_commands.specs.Stripe.{StripeInputs, Stripes, plan_words_in, stripe_work}
use Rattle.receive_commands.specs.Receive.{PlanLanes}
use Rattle.gather_commands.specs.Gather.{gather_meaning}
use Rattle.gathered_laws.specs.AfterSend.{ReadsLanes, later_words}

-- what `stripe` put on the lanes is this stream, its words filled up to whole groups, and the words file of `gather` has the words of
-- the stream from the fourth group on
pub record GathersStriped (i : StripeInputs) (stripe gathered : Outcome) : Type 0 where
  pub stream : List Word
  pub stripes : Stripes i.plan.settings i.words stream
  pub lanes : AreLaneOutputs i.plan.settings i.plan.out stream stripe.files
  pub words : content_of gathered.files (words_name i.plan.out) ≡ Some (rx_words_file (map as_sent (later_words i.plan.settings stream)))

-- `gather` after `stripe` of one plan, whose words were accepted: where the plan and the lanes that `stripe` wrote stand
abbrev pub GatherAfterStripe : Type 0
GatherAfterStripe = (name : List ℕ) (i : StripeInputs) (stripe gathered : Outcome) (before files : Files) (read : PlanLanes) →
    AreBytes before → plan_words_in before name ≡ Ok i → (stripe_work name).IsMade i stripe →
    ReadsLanes name i.plan stripe files read → (gather_meaning name).IsOutcome files gathered → GathersStriped i stripe gathered

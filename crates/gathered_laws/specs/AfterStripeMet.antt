-- The premises of the law on `gather` after `stripe` are met by a plan with its words file: of two lanes, and data words alone.
use Rattle.std.specs.Prelude.{◌≡◌, List, [], ◌∷◌, ◌++◌, codes, replicate, map, Ok, Some}
use Rattle.std.specs.FinMap.{from_entries}
use Rattle.lk_base.specs.Words.{as_sent}
use Rattle.lk_base.specs.declared.word.Word.{Word}
use Rattle.lk_base.specs.declared.word.Word.TheVariants.{Data}
use Rattle.lk_outside.specs.Files.{Files, AreBytes}
use Rattle.words_files.specs.WordsFile.{words_file}
use Rattle.lane_words.specs.WordsFile.{rx_words_file}
use Rattle.link_commands.specs.PremisesMet.{plan_name, skewed_text}
use Rattle.run_shell.specs.Outcome.{Outcome, content_of}
use Rattle.lane_commands.specs.Stripe.{StripeInputs, filler, plan_words_in, stripe_work}
use Rattle.receive_commands.specs.Receive.{PlanLanes}
use Rattle.gather_commands.specs.Gather.{gather_meaning}
use Rattle.gathered_laws.specs.AfterSend.{ReadsLanes}
use Rattle.gathered_laws.specs.AfterSendMet.{one_reading}

-- three groups of 56 words, and two words more
abbrev pub data_words : List Word
data_words = replicate 170 (Data 7)

abbrev pub data_files : Files
data_files = from_entries ((plan_name, skewed_text) ∷ (codes "o.words", words_file data_words) ∷ [])

abbrev pub data_inputs : StripeInputs
data_inputs = record { plan = one_reading.plan; words = data_words }

-- the words of the fourth group
abbrev pub fourth_group : List Word
fourth_group = replicate 2 (Data 7) ++ replicate 54 filler

-- what the law asks for: the plan and its words are accepted, and the files hold what `stripe` wrote; and what it says: the words file
-- has the fourth group
pub record AfterStripeMet : Type 0 where
  pub stripe : Outcome
  pub gathered : Outcome
  pub lanes : Files
  pub read : PlanLanes
  pub bytes : AreBytes data_files
  pub inputs : plan_words_in data_files plan_name ≡ Ok data_inputs
  pub stripes : (stripe_work plan_name).IsMade data_inputs stripe
  pub reads : ReadsLanes plan_name one_reading.plan stripe lanes read
  pub gathers : (gather_meaning plan_name).IsOutcome lanes gathered
  pub words : content_of gathered.files (codes "o.words") ≡ Some (rx_words_file (map as_sent fourth_group))

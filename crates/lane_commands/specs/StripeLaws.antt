-- Laws on `stripe` and the commands beside it.
use Rattle.std.specs.Prelude.{◌≡◌, ◌≤◌, ℕ, List, [], ◌∷◌, ◌++◌, length, replicate, Ok, Err, Some, take, drop}
use Rattle.lk_base.specs.Limits.{words_limit}
use Rattle.lk_base.specs.Link.{Settings}
use Rattle.lk_base.specs.declared.word.Word.{Word}
use Rattle.lk_base.specs.declared.word.Word.TheVariants.{Data, Control}
use Rattle.lk_outside.specs.Files.{Files, file}
use Rattle.words_files.specs.Examples.{last_byte_missing, word_of_each_kind}
use Rattle.words_files.specs.WordsOfFile.{sent_words_of_file}
use Rattle.words_files.specs.declared.error.WordsError.TheVariants.{Tag, Short}
use Rattle.plan_inputs.specs.Inputs.{Reading, plan_in}
use Rattle.run_shell.specs.Names.{words_name, lane_names}
use Rattle.run_shell.specs.Outcome.{Outcome, content_of}
use Rattle.run_shell.specs.Outputs.{outs, blank}
use Rattle.stream_commands.specs.Plan.{burst_plan_work, send_plan_work}
use Rattle.lane_commands.specs.Stripe.{StripeInputs, Stripes, IsStriped, filler, stripe_meaning}

-- `stripe` after `burst` of one plan creates the files that `send` of the plan creates: the plan is there, and its words file
-- holds what `burst` gave to it, within the limit of words files
abbrev pub StripeSendsBurst : Type 0
StripeSendsBurst = (name : List ℕ) (i : Reading) (burst send stripe : Outcome) (files : Files) (content : List ℕ) →
    (burst_plan_work name).IsMade i burst → (send_plan_work name).IsMade i send → plan_in files name ≡ Ok i.plan →
    content_of burst.files (words_name i.plan.out) ≡ Some content → file files (words_name i.plan.out) ≡ Some content →
    length content ≤ words_limit → (stripe_meaning name).IsOutcome files stripe → stripe.files ≡ send.files

-- words have one stream of whole groups
abbrev pub WordsStripeOnce : Type 0
WordsStripeOnce = (s : Settings) (words a b : List Word) → Stripes s words a → Stripes s words b → a ≡ b

-- without a word each lane file is empty
abbrev pub NoWordsNoBytes : Type 0
NoWordsNoBytes = (i : StripeInputs) (o : Outcome) → i.words ≡ [] → IsStriped i o →
    o.files ≡ outs (lane_names i.plan.out i.plan.settings.lanes) (blank (lane_names i.plan.out i.plan.settings.lanes))

-- ---- worked examples

-- one lane, and groups of 28 words
abbrev pub one_lane : Settings
one_lane = record {
  lanes = 1;
  metaframe = 32;
  skips = 1;
  burst_max = 256;
  burst_short = 64;
  deskew = 7;
  warmup = 4;
  max_packet = 262144;
}

-- three idles are filled up with 25, and no word with none
abbrev pub ThreeFillAGroup : Type 0
ThreeFillAGroup = Stripes one_lane (replicate 3 filler) (replicate 28 filler) × Stripes one_lane [] []

-- a whole group is not filled up
abbrev pub GroupStays : Type 0
GroupStays = Stripes one_lane (replicate 28 (Data 7)) (replicate 28 (Data 7))

-- data and control are read, the tag of a bad word is refused, and of two faults the lesser offset, and at one offset the tag
abbrev pub TagsAreRead : Type 0
TagsAreRead =
    (sent_words_of_file (take 18 word_of_each_kind) ≡ Ok (Data 0x0001020304050607 ∷ Control 0x81FFFF0000188177 ∷ []))
    × (sent_words_of_file [] ≡ Ok [])
    × (sent_words_of_file word_of_each_kind ≡ Err (Tag 18))
    × (sent_words_of_file last_byte_missing ≡ Err (Short 99))
    × (sent_words_of_file (take 9 word_of_each_kind ++ 3 ∷ []) ≡ Err (Tag 9))
    × (sent_words_of_file (take 9 word_of_each_kind ++ 1 ∷ []) ≡ Err (Short 9))
    × (sent_words_of_file (0 ∷ drop 1 last_byte_missing) ≡ Err (Tag 0))

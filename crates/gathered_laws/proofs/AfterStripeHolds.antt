-- The premises of the law on `gather` after `stripe` hold of a plan of two lanes.
use Rattle.std.proofs.Common.{◌≡◌, ℕ, ◌<◌, ◌≤◌, ◌^◌, All, List, ◌++◌, length, map, get_or, replicate, refl, ap, ◌∙◌, subst, lit≤, nat_lt, Some, Result, Ok, MatchResult}
use Rattle.std.proofs.lemmas.Bool.{ltb-true}
use Rattle.std.proofs.lemmas.List.Elements.{All-replicate}
use Rattle.std.proofs.lemmas.List.Sums.{AllPass-from_list_all}
use lib.Chars.{codes}
use Rattle.lk_base.specs.Limits.{words_limit}
use Rattle.lk_base.specs.Words.{as_sent, payload}
use Rattle.lk_base.specs.declared.word.Word.{Word}
use Rattle.lk_base.specs.declared.word.Word.TheVariants.{Data}
use Rattle.lk_outside.specs.Files.{AreBytes}
use Rattle.words_files.specs.WordsFile.{words_file}
use Rattle.words_files.specs.WordsOfFile.{sent_words_of_file}
use Rattle.words_files.proofs.Again.{sent_again}
use Rattle.link_laws.specs.PremisesMet.{two_lanes}
use Rattle.lane_words.specs.WordsFile.{rx_words_file}
use Rattle.plan_inputs.specs.Inputs.{planned_in}
use Rattle.plan_inputs.proofs.ListedFiles.{file_at}
use Rattle.run_stops.specs.Reading.{Refusal, behind, bytes_by, bytes_in}
use Rattle.run_stops.specs.WordsInputs.{words_by}
use Rattle.run_shell.specs.Outcome.{Outcome}
use Rattle.run_shell.specs.Work.{refused_outcome}
use Rattle.stream_commands.specs.Outputs.{AreLaneOutputs}
use Rattle.lane_commands.specs.SentWords.{sent_words_in}
use Rattle.lane_commands.specs.Stripe.{IsStriped, StripeInputs, Stripes, filler, plan_words_in, with_words}
use Rattle.lane_commands.specs.StripeLaws.{WordsStripeOnce}
use Rattle.lane_commands.proofs.StripeWork.{stripe_means}
use Rattle.link_commands.specs.PremisesMet.{SkewedLinkMeets, plan_name, skewed_files, skewed_reading}
use Rattle.gathered_laws.specs.AfterSend.{later_words}
use Rattle.gathered_laws.specs.AfterSendMet.{one_reading}
use Rattle.gathered_laws.specs.AfterStripe.{GatherAfterStripe}
use Rattle.gathered_laws.specs.AfterStripeMet.{AfterStripeMet, data_files, data_inputs, data_words, fourth_group}
use Rattle.gathered_laws.proofs.CheckGathered.{read_within}
use Rattle.gathered_laws.proofs.TwoLanes.{files_of_bytes, gathering, lanes_written, plan_there, planned_had, text_low, word_entries}

-- ---- the words and their stream

content_low : All (λ b. b < 256) (words_file data_words)
content_low = λ k d lt. ltb-true (get_or (words_file data_words) k d) 256 (AllPass-from_list_all (λ (b : ℕ). nat_lt b 256) (words_file data_words) refl k d lt)

data_bytes : AreBytes data_files
data_bytes = files_of_bytes (word_entries (words_file data_words)) (text_low, (content_low, tt))

data_sized : All (λ word. payload word < 2 ^ 64) data_words
data_sized = All-replicate (λ word. payload word < 2 ^ 64) 170 (Data 7) (lit≤ tt)

content_fits : length (words_file data_words) ≤ words_limit
content_fits = lit≤ tt

-- the words, and fillers up to the end of the fourth group
data_stream : List Word
data_stream = data_words ++ replicate 54 filler

data_stripes : Stripes two_lanes data_words data_stream
unfolding data_stream
data_stripes = record { fillers = 54; few = lit≤ tt; is = refl; whole = refl }

stream_later : later_words two_lanes data_stream ≡ fourth_group
unfolding data_stream
stream_later = refl

-- ---- what `stripe` reads

words_read : sent_words_in data_files (codes "o.words") ≡ Ok data_words
words_read =
    let had : bytes_in data_files (codes "o.words") words_limit ≡ Ok (words_file data_words) =
    ap (bytes_by (codes "o.words") words_limit) (file_at (word_entries (words_file data_words)) (codes "o.words")) ∙ read_within (codes "o.words") words_limit (words_file data_words) content_fits in
    ap (λ r. behind r (λ bytes. words_by (codes "o.words") (sent_words_of_file bytes))) had ∙ ap (words_by (codes "o.words")) (sent_again data_words data_sized)

module _ (planned : planned_in skewed_files plan_name ≡ Ok one_reading) where
  inputs_read : plan_words_in data_files plan_name ≡ Ok data_inputs
  inputs_read =
      ap (λ r. behind r (with_words data_files)) (plan_there planned (word_entries (words_file data_words)) refl)
      ∙ ap (λ r. behind r (λ ws. Ok (record { plan = one_reading.plan; words = ws }))) words_read

  met : GatherAfterStripe → WordsStripeOnce → (stripe : Outcome) → IsStriped data_inputs stripe → AfterStripeMet
  unfolding data_stream
  met after_stripe once stripe h =
      let is : h.stream ≡ data_stream = once two_lanes data_words h.stream data_stream h.stripes data_stripes in
      let lanes : AreLaneOutputs one_reading.plan.settings one_reading.plan.out data_stream stripe.files = subst (λ (x : List Word). AreLaneOutputs one_reading.plan.settings one_reading.plan.out x stripe.files) is h.files in
      let m = gathering planned stripe (lanes_written data_stream stripe (lit≤ tt) lanes) in
      let g = after_stripe plan_name data_inputs stripe m.gathered data_files m.lanes m.read data_bytes inputs_read h m.reads m.gathers in
      let same : g.stream ≡ data_stream = once two_lanes data_words g.stream data_stream g.stripes data_stripes in
      record {
        stripe = stripe;
        gathered = m.gathered;
        lanes = m.lanes;
        read = m.read;
        bytes = data_bytes;
        inputs = inputs_read;
        stripes = h;
        reads = m.reads;
        gathers = m.gathers;
        words = g.words ∙ ap (λ (x : List Word). Some (rx_words_file (map as_sent (later_words two_lanes x)))) same ∙ ap (λ (x : List Word). Some (rx_words_file (map as_sent x))) stream_later;
      }

pub after_stripe_met : SkewedLinkMeets → GatherAfterStripe → WordsStripeOnce → AfterStripeMet
after_stripe_met skewed after_stripe once =
    let planned = planned_had skewed_files plan_name skewed_reading skewed.clean.read in
    let has = (stripe_means plan_name).some_outcome data_files data_bytes in
    met planned after_stripe once has.0
    (subst (λ (r : Result StripeInputs Refusal). MatchResult r (λ i. IsStriped i has.0) (λ e. has.0 ≡ refused_outcome e)) (inputs_read planned) has.1)

-- The premises of the laws on `gather` and `check` after `send` hold of a plan of two lanes.
use Rattle.std.proofs.Common.{◌≡◌, ℕ, ◌*◌, ◌≤◌, List, [], length, map, refl, sym, ap, ◌∙◌, subst, lit≤, Result, Ok, MatchResult}
use Rattle.std.specs.FinMap.{from_entries}
use lib.Chars.{codes}
use Rattle.lk_base.specs.Limits.{words_limit}
use Rattle.lk_base.specs.Link.{group_of}
use Rattle.lk_base.specs.Words.{as_sent}
use Rattle.lk_base.specs.declared.word.Word.{Word}
use Rattle.lk_outside.specs.Files.{Files, AreBytes}
use Rattle.stream_model.specs.BurstStream.{Source, IsBurstStream}
use Rattle.stream_model.proofs.OneStream.{one_stream}
use Rattle.link_laws.specs.PremisesMet.{behind_warmup, wide_words}
use Rattle.link_laws.proofs.WideStream.{wide_stream}
use Rattle.lane_words.specs.GatheredLaws.{WrittenIsRead}
use Rattle.lane_words.specs.WordsFile.{rx_words_file}
use Rattle.link_plan.specs.Listing.{channels_in_order}
use Rattle.plan_inputs.specs.Inputs.{Reading, planned_in}
use Rattle.plan_inputs.specs.Sources.{IsSourceOf}
use Rattle.plan_inputs.proofs.ListedFiles.{file_at}
use Rattle.plan_inputs.proofs.SameSource.{same_source}
use Rattle.run_stops.specs.Reading.{Refusal}
use Rattle.run_shell.specs.Names.{words_name}
use Rattle.run_shell.specs.Outcome.{Outcome}
use Rattle.run_shell.specs.Work.{refused_outcome}
use Rattle.stream_commands.specs.Outputs.{AreLaneOutputs}
use Rattle.stream_commands.specs.Plan.{HasPlanStream, IsOfPlan}
use Rattle.stream_commands.proofs.PlanWork.{send_means}
use Rattle.link_commands.specs.PremisesMet.{SkewedLinkMeets, plan_name, skewed_files, skewed_reading}
use Rattle.check_commands.specs.AfterBurst.{TellsNoFault}
use Rattle.check_commands.specs.Check.{CheckInputs, IsChecked, check_meaning, faults_found, told_outcome}
use Rattle.gathered_laws.specs.AfterSend.{CheckAfterGather, GatherAfterSend, GathersStream, ReadsGathered, later_words}
use Rattle.gathered_laws.specs.AfterSendMet.{AfterSendMet, one_reading}
use Rattle.gathered_laws.proofs.CheckGathered.{all_read, words_there}
use Rattle.gathered_laws.proofs.TwoLanes.{LanesSent, gathering, lanes_written, plan_there, planned_had, word_entries}

-- ---- the plan

is_wide : IsSourceOf one_reading.plan one_reading.inputs behind_warmup
unfolding channels_in_order
is_wide = record { shape = record { burst_max = refl; burst_short = refl; burst_min = refl; group = refl; warmup = refl }; channels = refl; entries = refl; packets = refl; flow = refl; local = refl }

-- what `send` sends of it
wide_is_sent : (w : List Word) (send : Outcome) → IsOfPlan (AreLaneOutputs one_reading.plan.settings one_reading.plan.out) one_reading w send → w ≡ wide_words
wide_is_sent w send h =
    let source : h.source ≡ behind_warmup = same_source one_reading.plan one_reading.inputs h.source behind_warmup h.is_source is_wide in
    one_stream behind_warmup w wide_words (subst (λ (x : Source). IsBurstStream x w) source h.of_stream.stream) wide_stream

-- ---- the words

words_few : length (rx_words_file (map as_sent (later_words one_reading.plan.settings wide_words))) ≤ words_limit
words_few = lit≤ tt

many_later : length (later_words one_reading.plan.settings wide_words) ≡ 168
many_later = refl

-- ---- what stands after `send`

abbrev IsSent : Outcome → Type 0
IsSent send = HasPlanStream (AreLaneOutputs one_reading.plan.settings one_reading.plan.out) one_reading send

lanes_sent : (send : Outcome) → IsSent send → LanesSent send
lanes_sent send (w, h) =
    lanes_written wide_words send (lit≤ tt)
    (subst (λ (x : List Word). AreLaneOutputs one_reading.plan.settings one_reading.plan.out x send.files) (wide_is_sent w send h) h.of_stream.files)

module _ (planned : planned_in skewed_files plan_name ≡ Ok one_reading) where
  -- ---- what stands after `gather`

  abbrev content_for : List Word → List ℕ
  content_for w = rx_words_file (map as_sent (later_words one_reading.plan.settings w))

  abbrev word_files : List Word → Files
  word_files w = from_entries (word_entries (content_for w))

  fits_for : (w : List Word) → w ≡ wide_words → length (content_for w) ≤ words_limit
  fits_for w is = subst (λ (x : List Word). length (content_for x) ≤ words_limit) (sym is) words_few

  gathered_read : (send gathered : Outcome) (g : GathersStream one_reading send gathered) → ReadsGathered plan_name one_reading gathered (word_files g.stream)
  gathered_read send gathered g = record {
    plan = plan_there planned (word_entries (content_for g.stream)) refl;
    flow = refl;
    content = content_for g.stream;
    given = g.words;
    there = file_at (word_entries (content_for g.stream)) (codes "o.words");
    fits = fits_for g.stream (wide_is_sent g.stream send g.is_stream);
  }

  checks_it : WrittenIsRead → (send gathered : Outcome) (g : GathersStream one_reading send gathered) → (check : Outcome) × (check_meaning plan_name).IsOutcome (word_files g.stream) check
  unfolding gathered_read
  checks_it written send gathered g =
      let c = gathered_read send gathered g in
      let words = words_there written (word_files g.stream) (words_name one_reading.plan.out) (3 * group_of one_reading.plan.settings) g.stream g.is_stream.of_stream.stream.sized c.there c.fits in
      let read : CheckInputs = record { plan = one_reading.plan; flow = []; words = map as_sent (later_words one_reading.plan.settings g.stream) } in
      let check : Outcome = told_outcome (codes "o") (length read.words) (faults_found read) in
      let all = all_read (word_files g.stream) plan_name one_reading.plan [] read.words c.plan c.flow words in
      (check, subst (λ x. MatchResult x (λ j. IsChecked j check) (λ e. check ≡ refused_outcome e)) (sym all) refl)

  met : AreBytes skewed_files → GatherAfterSend → CheckAfterGather → WrittenIsRead → (send : Outcome) → IsSent send → AfterSendMet
  met bytes after_send after_gather written send sends =
      let m = gathering planned send (lanes_sent send sends) in
      let g = after_send plan_name one_reading send m.gathered skewed_files m.lanes m.read bytes planned sends m.reads m.gathers in
      let c = gathered_read send m.gathered g in
      let k = checks_it written send m.gathered g in
      let told = after_gather plan_name one_reading send m.gathered k.0 skewed_files m.lanes (word_files g.stream) m.read bytes planned refl sends m.reads m.gathers c k.1 in
      record {
        send = send;
        gathered = m.gathered;
        check = k.0;
        lanes = m.lanes;
        words = word_files g.stream;
        read = m.read;
        bytes = bytes;
        planned = planned;
        no_flow = refl;
        sends = sends;
        reads_sent = m.reads;
        gathers = m.gathers;
        reads_gathered = c;
        checks = k.1;
        tells = subst (λ (n : ℕ). TellsNoFault (codes "o") n k.0) (ap (λ (x : List Word). length (later_words one_reading.plan.settings x)) (wide_is_sent told.0 send told.1) ∙ many_later) told.2;
      }

pub after_send_met : SkewedLinkMeets → GatherAfterSend → CheckAfterGather → WrittenIsRead → AfterSendMet
after_send_met skewed after_send after_gather written =
    let planned = planned_had skewed_files plan_name skewed_reading skewed.clean.read in
    let has = (send_means plan_name).some_outcome skewed_files skewed.clean.bytes in
    met planned skewed.clean.bytes after_send after_gather written has.0
    (subst (λ (r : Result Reading Refusal). MatchResult r (λ i. HasPlanStream (AreLaneOutputs i.plan.settings i.plan.out) i has.0) (λ e. has.0 ≡ refused_outcome e)) planned has.1)

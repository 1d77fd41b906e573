-- `gather` after `send` gives the words from the fourth group on, as it does after any command that wrote the lanes of a stream.
use Rattle.std.proofs.Common.{◌≡◌, ◌%◌, ℕ, List, [], ◌∷◌, cond, get_or, length, map, sym, ap, ◌∙◌, subst, Some, Result, Ok, MatchResult}
use Rattle.std.proofs.lemmas.Option.{slice_get-get_or}
use Rattle.lk_base.specs.Link.{IsLink, group_of}
use Rattle.lk_base.specs.Words.{as_sent}
use Rattle.lk_base.specs.declared.word.RxWord.{RxWord}
use Rattle.lk_base.specs.declared.word.Word.{Word}
use Rattle.lk_outside.specs.Files.{Files}
use Rattle.lane_model.specs.LaneBits.{IsFileOf, stream_lane_bits}
use Rattle.stream_model.specs.BurstStream.{Source, IsBurstStream}
use Rattle.tx_end.proofs.Shapes.{whole_groups}
use Rattle.lane_words.specs.Gathered.{gathered_words, places}
use Rattle.lane_words.specs.GatheredLaws.{CleanLanesGiveStream}
use Rattle.lane_words.specs.Items.{AreAllItems}
use Rattle.lane_words.specs.WordsFile.{rx_words_file}
use Rattle.link_plan.specs.Plan.{PlanValue}
use Rattle.plan_inputs.specs.Inputs.{plan_in}
use Rattle.run_stops.specs.Reading.{Refusal}
use Rattle.run_stops.proofs.Readings.{behind_ok}
use Rattle.run_shell.specs.Names.{words_name}
use Rattle.run_shell.specs.Outcome.{Outcome, Output, content_of}
use Rattle.run_shell.specs.Outputs.{outs}
use Rattle.run_shell.specs.Work.{refused_outcome}
use Rattle.run_shell.proofs.Fills.{same}
use Rattle.stream_commands.specs.Outputs.{AreLaneOutputs}
use Rattle.lane_receipts.specs.LaneReports.{names_of_lanes}
use Rattle.receive_commands.specs.Receive.{PlanLanes, lanes_in, plan_lanes_in, with_lanes}
use Rattle.gather_commands.specs.Gather.{IsGathered, gather_meaning}
use Rattle.gather_commands.specs.Table.{places_name, places_table}
use Rattle.gathered_laws.specs.AfterSend.{GatherAfterSend, ReadsLanes, later_words}
use Rattle.gathered_laws.proofs.CleanLanes.{AreSized}
use Rattle.gathered_laws.proofs.LanesRead.{as_written, many_read}
use Rattle.gathered_laws.proofs.StreamGathered.{stream_gathered}

-- ---- what was read

lanes_of_read : (files : Files) (read : PlanLanes) (plan : PlanValue) (lanes : List (List ℕ)) → lanes_in files (names_of_lanes plan) ≡ Ok lanes →
    ◌≡◌ {A = Result PlanLanes Refusal} (Ok (record { plan = plan; lanes = lanes })) (Ok read) → lanes_in files (names_of_lanes read.plan) ≡ Ok read.lanes
lanes_of_read files read plan lanes are all =
    let is : ◌≡◌ {A = PlanLanes} (record { plan = plan; lanes = lanes }) read = cc in
    subst (λ (r : PlanLanes). lanes_in files (names_of_lanes r.plan) ≡ Ok r.lanes) is are

lanes_had : (files : Files) (name : List ℕ) (read : PlanLanes) → plan_lanes_in files name ≡ Ok read → lanes_in files (names_of_lanes read.plan) ≡ Ok read.lanes
lanes_had files name read e =
    let (plan, is_plan, more) = behind_ok (plan_in files name) (with_lanes files) read e in
    let (lanes, are, all) = behind_ok (lanes_in files (names_of_lanes plan)) (λ ls. Ok (record { plan = plan; lanes = ls })) read more in
    lanes_of_read files read plan lanes are all

-- ---- the words

-- the content of the first of some outputs
first_content : (name content : List ℕ) (rest : List Output) → content_of (record { name = name; content = content } ∷ rest) name ≡ Some content
first_content name content rest = ap (λ b. cond b (Some content) (content_of rest name)) (same name)

words_content : (read : PlanLanes) (gathered : Outcome) (g : IsGathered read gathered) → content_of gathered.files (words_name read.plan.out) ≡ Some (rx_words_file (gathered_words g.items))
words_content read gathered g =
    ap (λ (o : Outcome). content_of o.files (words_name read.plan.out)) g.is
    ∙ first_content (words_name read.plan.out) (rx_words_file (gathered_words g.items)) (outs (places_name read.plan.out ∷ []) (places_table (places g.items) ∷ []))

-- the words file of `gather` has the words of the stream whose lanes a command wrote
pub lanes_gathered : CleanLanesGiveStream → (name : List ℕ) (plan : PlanValue) (written gathered : Outcome) (files : Files) (read : PlanLanes) (w : List Word) → AreLaneOutputs plan.settings plan.out w written.files → AreSized w
    → length w % group_of plan.settings ≡ 0 → ReadsLanes name plan written files read → (gather_meaning name).IsOutcome files gathered
    → content_of gathered.files (words_name plan.out) ≡ Some (rx_words_file (map as_sent (later_words plan.settings w)))
lanes_gathered law name plan written gathered files read w (contents, are_files, wrote) sized whole r gathers =
    let g : IsGathered read gathered = subst (λ (x : Result PlanLanes Refusal). MatchResult x (λ j. IsGathered j gathered) (λ why. gathered ≡ refused_outcome why)) r.is_read gathers in
    let link : IsLink plan.settings = subst (λ (p : PlanValue). IsLink p.settings) r.plan g.link in
    let had : lanes_in files (names_of_lanes plan) ≡ Ok read.lanes = subst (λ (p : PlanValue). lanes_in files (names_of_lanes p) ≡ Ok read.lanes) r.plan (lanes_had files name read r.is_read) in
    let same_lane = as_written plan.out plan.settings.lanes link.lanes.1 files read.lanes contents written.files had are_files.one_each wrote r.sent in
    let words : gathered_words g.items ≡ map as_sent (later_words plan.settings w) =
    stream_gathered law plan.settings w read.lanes g.items link sized whole (many_read plan.out plan.settings.lanes link.lanes.1 files read.lanes had)
    (λ lane lt. subst (λ (bytes : List ℕ). IsFileOf bytes (stream_lane_bits plan.settings w lane)) (sym (same_lane lane lt)) (are_files.each lane lt))
    (subst (λ (p : PlanValue). AreAllItems p.settings read.lanes g.items) r.plan g.are_items)
    in
    ap (λ (p : PlanValue). content_of gathered.files (words_name p.out)) (sym r.plan) ∙ words_content read gathered g ∙ ap (λ (ws : List RxWord). Some (rx_words_file ws)) words

-- ---- after `send`

stream_sized : (source : Source) (w : List Word) → IsBurstStream source w → AreSized w
stream_sized source w stream = λ k d lt. stream.sized k (get_or w k d) (slice_get-get_or w k d lt)

pub gather_after_send : CleanLanesGiveStream → GatherAfterSend
gather_after_send law name i send gathered before files read are planned (w, h) r gathers = record {
  stream = w;
  is_stream = h;
  words = lanes_gathered law name i.plan send gathered files read w h.of_stream.files (stream_sized h.source w h.of_stream.stream)
      (whole_groups h.source w (group_of i.plan.settings) h.of_stream.stream h.is_source.shape.group) r gathers;
}

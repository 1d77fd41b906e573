-- `join` of the words that `gather` wrote delivers what `receive` delivers of the lanes.
use Rattle.std.proofs.Common.{◌≡◌, ℕ, ◌≤◌, false, List, [], ◌∷◌, ◌++◌, length, map, nat_lt, cond, refl, ap, ◌∙◌, subst, arith, Option, Some, IfSome, Result, Ok, MatchResult}
use Rattle.std.proofs.lemmas.Bool.{false_from_ne_true, ltb-true}
use Rattle.std.specs.Option.{option_or}
use Rattle.lk_base.specs.Limits.{words_limit}
use Rattle.lk_base.specs.declared.word.RxWord.{RxWord}
use Rattle.lk_outside.specs.Files.{Files, file}
use Rattle.pcap_files.specs.Names.{capture_name}
use Rattle.pcap_files.specs.Written.{capture_bytes}
use Rattle.receive_model.specs.Events.{Event, Setting, shown_spans, word_events}
use Rattle.words_files.specs.WordsOfFile.{words_of_file}
use Rattle.run_stops.specs.Reading.{Refusal, behind, bytes_by, bytes_in}
use Rattle.run_stops.specs.WordsInputs.{words_by, words_in}
use Rattle.run_shell.specs.Names.{words_name}
use Rattle.run_shell.specs.Outcome.{Holds, Outcome, Output, content_of, names_of}
use Rattle.run_shell.specs.Outputs.{outs}
use Rattle.run_shell.specs.Work.{refused_outcome}
use Rattle.run_shell.proofs.Fills.{same}
use Rattle.receipts.specs.Received.{capture_file, packets_on, received_outcome, spans_name}
use Rattle.receipts.proofs.Settings.{plan_setting}
use Rattle.join_commands.specs.JoinPlan.{IsJoined, PlanWords, plan_words_in, with_words}
use Rattle.receive_commands.specs.Receive.{IsReceived, PlanLanes}
use Rattle.lane_words.specs.Gathered.{gathered_words, places}
use Rattle.lane_words.specs.WordsFile.{rx_words_file}
use Rattle.lane_words.proofs.GivenBack.{lanes_are_given_back}
use Rattle.link_reports.specs.Table.{span_table}
use Rattle.gather_commands.specs.Table.{places_name, places_table}
use Rattle.gather_commands.specs.Gather.{IsGathered}
use Rattle.gather_commands.specs.JoinLaw.{HaveSameCaptures, JoinDeliversAsReceive}

-- ---- captures

module _ (link_type : ℕ) (out : List ℕ) where
  capture_names : (outputs : List Event) (channels : List ℕ) → names_of (map (capture_file link_type out outputs) channels) ≡ map (capture_name out) channels
  capture_names outputs [] = refl
  capture_names outputs (channel ∷ channels) = ap (λ ns. capture_name out channel ∷ ns) (capture_names outputs channels)

  same_captures : (one other : List Event) → ((channel : ℕ) → packets_on channel one ≡ packets_on channel other) → (channels : List ℕ) →
      map (capture_file link_type out one) channels ≡ map (capture_file link_type out other) channels
  same_captures one other h [] = refl
  same_captures one other h (channel ∷ channels) =
      ap (λ ps. record { name = capture_name out channel; content = capture_bytes link_type ps } ∷ map (capture_file link_type out one) channels) (h channel)
      ∙ ap (λ fs. capture_file link_type out other channel ∷ fs) (same_captures one other h channels)

-- ---- the words file

read_within : (name : List ℕ) (limit : ℕ) (bytes : List ℕ) → length bytes ≤ limit → bytes_by name limit (Some bytes) ≡ Ok bytes
read_within name limit bytes le =
    let e : nat_lt limit (length bytes) ≡ false = false_from_ne_true (nat_lt limit (length bytes)) (λ t. let lt = ltb-true limit (length bytes) t in omega arith) in
    rw e refl

-- the content of the first of some outputs
first_content : (name content : List ℕ) (rest : List Output) → content_of (record { name = name; content = content } ∷ rest) name ≡ Some content
first_content name content rest = ap (λ b. cond b (Some content) (content_of rest name)) (same name)

module _ (i : PlanLanes) (gathered : Outcome) (h : IsGathered i gathered) (old new : Files) (holds : Holds gathered.files old new) where
  abbrev name : List ℕ
  name = words_name i.plan.out

  abbrev words : List RxWord
  words = gathered_words h.items

  -- it stands as it was written
  words_stand : file new name ≡ Some (rx_words_file words)
  words_stand =
      holds name
      ∙ ap (λ (o : Outcome). option_or (content_of o.files name) (file old name)) h.is
      ∙ ap (λ (content : Option (List ℕ)). option_or content (file old name)) (first_content name (rx_words_file words) (outs (places_name i.plan.out ∷ []) (places_table (places h.items) ∷ [])))

  words_had : words_of_file (rx_words_file words) ≡ Ok words → IfSome (file new name) (λ bytes. length bytes ≤ words_limit) → words_in new name ≡ Ok words
  words_had read within =
      let le = subst (λ (o : Option (List ℕ)). IfSome o (λ bytes. length bytes ≤ words_limit)) words_stand within in
      let there : bytes_in new name words_limit ≡ Ok (rx_words_file words) = ap (bytes_by name words_limit) words_stand ∙ read_within name words_limit (rx_words_file words) le in
      ap (λ r. behind r (λ bytes. words_by name (words_of_file bytes))) there ∙ ap (words_by name) read

-- ---- the law

-- the table of the spans
abbrev table_of : PlanLanes → List Event → Output
table_of i outputs = record { name = spans_name i.plan.out; content = span_table (shown_spans outputs) }

joined_captures : (i : PlanLanes) (words : List RxWord) (joined received : Outcome) → IsJoined (record { plan = i.plan; words = words }) joined → (k : IsReceived i received) →
    ((channel : ℕ) → packets_on channel (word_events k.setting words) ≡ packets_on channel k.events) → HaveSameCaptures i.plan joined received
joined_captures i words joined received (setting, is_setting, e) k delivered =
    let as_received : joined ≡ received_outcome k.setting i.plan.link_type i.plan.out [] (word_events k.setting words) =
    subst (λ (x : Setting). joined ≡ received_outcome x i.plan.link_type i.plan.out [] (word_events x words)) (plan_setting i.plan setting k.setting is_setting k.is_setting) e in
    record {
      captures = map (capture_file i.plan.link_type i.plan.out k.events) k.setting.channels;
      named = capture_names i.plan.link_type i.plan.out k.events k.setting.channels ∙ ap (map (capture_name i.plan.out)) k.is_setting.channels;
      one_last = table_of i (word_events k.setting words);
      one_files = ap (λ (o : Outcome). o.files) as_received
          ∙ ap (λ fs. fs ++ table_of i (word_events k.setting words) ∷ []) (same_captures i.plan.link_type i.plan.out (word_events k.setting words) k.events delivered k.setting.channels);
      other_last = table_of i k.events;
      other_files = ap (λ (o : Outcome). o.files) k.is;
    }

pub join_delivers_as_receive : JoinDeliversAsReceive
join_delivers_as_receive name old new i gathered received joined inputs gathers receives holds planned within joins =
    let h : IsGathered i gathered = subst (λ (r : Result PlanLanes Refusal). MatchResult r (λ j. IsGathered j gathered) (λ why. gathered ≡ refused_outcome why)) inputs gathers in
    let k : IsReceived i received = subst (λ (r : Result PlanLanes Refusal). MatchResult r (λ j. IsReceived j received) (λ why. received ≡ refused_outcome why)) inputs receives in
    let back = lanes_are_given_back i.plan.settings k.setting i.lanes h.items k.events h.link.deskew_below_half h.are_items k.are_events in
    let words = gathered_words h.items in
    let had : plan_words_in new name ≡ Ok (record { plan = i.plan; words = words }) =
    ap (λ r. behind r (with_words new)) planned ∙ ap (λ r. behind r (λ ws. Ok (record { plan = i.plan; words = ws }))) (words_had i gathered h old new holds back.read within) in
    let j : IsJoined (record { plan = i.plan; words = words }) joined = subst (λ (r : Result PlanWords Refusal). MatchResult r (λ p. IsJoined p joined) (λ why. joined ≡ refused_outcome why)) had joins in
    joined_captures i words joined received j k back.delivered

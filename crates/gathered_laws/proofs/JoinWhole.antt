-- `join` of words of which `check` tells no fault receives them whole.
use Rattle.std.proofs.Common.{◌≡◌, ℕ, zero, suc, ◌+◌, ◌≤◌, ◌==◌, ◌&&◌, Bool, true, false, cond, List, [], ◌∷◌, ◌++◌, length, map, flat_map, find, is_some, refl, sym, ap, ap₂, ◌∙◌, subst, arith, Result, Ok, MatchResult}
use Rattle.std.specs.Prelude.{sum_by}
use Rattle.std.specs.List.{list_all, list_any}
use Rattle.std.proofs.lemmas.Bool.{and_parts}
use Rattle.std.proofs.lemmas.List.{append_cancel_left}
use Rattle.std.proofs.lemmas.List.Sums.{sum_by-cons}
use Rattle.lk_base.specs.declared.fault.DropWhy.{DropWhy}
use Rattle.lk_base.specs.declared.fault.DropWhy.TheVariants as drops
use Rattle.lk_base.specs.declared.word.RxWord.{RxWord}
use Rattle.lk_outside.specs.Files.{Files}
use Rattle.receive_model.specs.Events.{Delivered, Dropped, Event, FaultSpan, Flow, Setting, is_listed, shown_spans, word_events}
use Rattle.receive_model.specs.Pieces.{Packet}
use Rattle.receive_model.specs.declared.span.Span.{Span}
use Rattle.receive_model.proofs.Cuts.{split}
use Rattle.word_rules.specs.Faults.{faults}
use Rattle.word_rules.specs.declared.fault.Fault.{Fault}
use Rattle.rule_laws.specs.WordsWithoutFault as whole
use Rattle.rule_laws.specs.WordsWithoutFault.{LawOnDelivered, LawOnDrops, LawOnSpans, drops_as_told, own_bursts, told_at}
use Rattle.pcap_files.specs.Names.{capture_name}
use Rattle.pcap_files.specs.Written.{capture_bytes}
use Rattle.csv_rows.specs.Written.{rows_text}
use Rattle.csv_rows.proofs.ReadBack.{rows-long}
use Rattle.stream_model.specs.declared.rows.FlowRow.{FlowRow}
use Rattle.link_plan.specs.Listing.{channels_in_order}
use Rattle.link_plan.specs.Plan.{PlanValue}
use Rattle.link_plan.specs.Timed.{flow_of}
use Rattle.link_plan.specs.Views.{numbers_in}
use Rattle.link_reports.specs.Drops.{drop_counts, drop_place, drops_at, is_drop_at}
use Rattle.link_reports.specs.Lines.{dropped_line, got_line, spans_line}
use Rattle.link_reports.specs.Table.{span_table}
use Rattle.plan_inputs.specs.Inputs.{plan_in, rows_in}
use Rattle.receipts.specs.Received.{capture_file, channel_line, packets_on, received_outcome, spans_name}
use Rattle.receipts.specs.Settings.{IsSettingOf}
use Rattle.run_stops.specs.Reading.{Refusal, behind}
use Rattle.run_stops.specs.WordsInputs.{words_in}
use Rattle.run_stops.proofs.Readings.{behind_ok}
use Rattle.run_shell.specs.Names.{words_name}
use Rattle.run_shell.specs.Outcome.{Outcome, Output}
use Rattle.run_shell.specs.Work.{refused_outcome}
use Rattle.join_commands.specs.JoinPlan.{IsJoined, PlanWords, plan_words_in}
use Rattle.join_commands.specs.JoinPlan as join
use Rattle.check_commands.specs.AfterBurst.{TellsNoFault}
use Rattle.check_commands.specs.Check.{CheckInputs, IsChecked, check_inputs_in, faults_found, faults_name, rules_of, told_outcome, with_flow, with_words}
use Rattle.check_commands.specs.CheckLaws.{WorkedTables}
use Rattle.check_commands.specs.Table.{fault_fields, fault_rows, faults_table, heading}
use Rattle.gathered_laws.specs.JoinWhole.{IsReceivedWhole, JoinReceivesWhole, capture_of_whole, line_of_whole, spans_around, whole_packets}

-- ---- `check` tells no fault

abbrev first_content : List Output → List ℕ
first_content [] = []
first_content (o ∷ os) = o.content

no_rows : fault_rows [] ≡ []
unfolding rows_text
no_rows = refl

none_found : (out : List ℕ) (words : ℕ) (checked : Outcome) (found : List Fault) → WorkedTables → checked ≡ told_outcome out words found → TellsNoFault out words checked → found ≡ []
none_found out words checked found tables is none = empty found few
  where
    rows : fault_rows found ≡ []
    rows = append_cancel_left (rows_text (heading ∷ [])) (fault_rows found) (fault_rows [])
        (ap (λ (o : Outcome). first_content o.files) (sym is) ∙ ap first_content none.table ∙ sym tables.none) ∙ no_rows

    few : length found ≤ 0
    few =
        let long = rows-long (map fault_fields found) in
        let many : length (map fault_fields found) ≡ length found = mapped found in
        let e : length (fault_rows found) ≡ 0 = ap length rows in
        omega (arith, long, many, e)
      where
        mapped : (fs : List Fault) → length (map fault_fields fs) ≡ length fs
        mapped [] = refl
        mapped (f ∷ fs) = ap suc (mapped fs)

    empty : (fs : List Fault) → length fs ≤ 0 → fs ≡ []
    empty [] le = refl
    empty (f ∷ fs) le = absurd (omega (arith, le))

-- ---- the setting of `join` is what the plan of `check` says

found_any : (channels : List ℕ) (channel : ℕ) → is_some (find (λ c. c == channel) channels) ≡ list_any (λ c. c == channel) channels
found_any [] channel = refl
found_any (c ∷ channels) channel = split (c == channel) (λ t. rw t refl) (λ t. rw t (found_any channels channel))

says : (plan : PlanValue) (flow : List FlowRow) (setting : Setting) → IsSettingOf plan setting → whole.IsSettingOf setting (rules_of plan flow)
says plan flow setting is = record {
  max_packet = is.max_packet;
  wide = is.wide;
  channels = λ channel. ap (λ (cs : List ℕ). is_some (find (λ c. c == channel) cs)) is.channels ∙ found_any (channels_in_order (numbers_in plan)) channel;
}

-- ---- drops

own_reasons : (P : DropWhy → Type 0) → P drops.End → P drops.SenderError → (why : DropWhy) → whole.is_own_reason why ≡ true → P why
own_reasons P a b drops.End h = a
own_reasons P a b drops.SenderError h = b
own_reasons P a b drops.Bad h = absurd (let f : false ≡ true = h in cc)
own_reasons P a b drops.Crc h = absurd (let f : false ≡ true = h in cc)
own_reasons P a b drops.Protocol h = absurd (let f : false ≡ true = h in cc)
own_reasons P a b drops.Lost h = absurd (let f : false ≡ true = h in cc)
own_reasons P a b drops.TooLong h = absurd (let f : false ≡ true = h in cc)
own_reasons P a b drops.Unlisted h = absurd (let f : false ≡ true = h in cc)

module _ (place : ℕ) (for_the_end : drop_place drops.End == place ≡ false) (by_the_sender : drop_place drops.SenderError == place ≡ false) where
  one_else : (e : Event) → drops_as_told e ≡ true → is_drop_at place e ≡ false
  one_else (Delivered channel packet) h = refl
  one_else (Dropped channel why) h = own_reasons (λ why. drop_place why == place ≡ false) for_the_end by_the_sender why h
  one_else (FaultSpan span) h = refl
  one_else (Flow at word) h = refl

  none_else : (outputs : List Event) → list_all drops_as_told outputs ≡ true → drops_at outputs place ≡ 0
  none_else [] h = refl
  none_else (e ∷ outputs) h =
      let parts = and_parts (drops_as_told e) (list_all drops_as_told outputs) h in
      let here = sum_by-cons (λ (x : Event). cond (is_drop_at place x) 1 0) e outputs in
      let no : ◌≡◌ {A = ℕ} (cond (is_drop_at place e) 1 0) 0 = ap (λ (b : Bool). cond b 1 0) (one_else e parts.0) in
      let rest = none_else outputs parts.1 in
      omega (arith, here, no, rest)

abbrev eight : ℕ → ℕ → ℕ → ℕ → ℕ → ℕ → ℕ → ℕ → List ℕ
eight a b c d e f g h = a ∷ b ∷ c ∷ d ∷ e ∷ f ∷ g ∷ h ∷ []

counts_are : (outputs : List Event) → list_all drops_as_told outputs ≡ true → drop_counts outputs ≡ 0 ∷ 0 ∷ 0 ∷ 0 ∷ drops_at outputs 4 ∷ 0 ∷ 0 ∷ drops_at outputs 7 ∷ []
counts_are outputs h =
    let n : ℕ → ℕ = drops_at outputs in
    ap (λ (k : ℕ). eight k (n 1) (n 2) (n 3) (n 4) (n 5) (n 6) (n 7)) (none_else 0 refl refl outputs h)
    ∙ ap (λ (k : ℕ). eight 0 k (n 2) (n 3) (n 4) (n 5) (n 6) (n 7)) (none_else 1 refl refl outputs h)
    ∙ ap (λ (k : ℕ). eight 0 0 k (n 3) (n 4) (n 5) (n 6) (n 7)) (none_else 2 refl refl outputs h)
    ∙ ap (λ (k : ℕ). eight 0 0 0 k (n 4) (n 5) (n 6) (n 7)) (none_else 3 refl refl outputs h)
    ∙ ap (λ (k : ℕ). eight 0 0 0 0 (n 4) k (n 6) (n 7)) (none_else 5 refl refl outputs h)
    ∙ ap (λ (k : ℕ). eight 0 0 0 0 (n 4) 0 k (n 7)) (none_else 6 refl refl outputs h)

-- ---- what `join` makes

alike : {X Y : Type 0} (f g : X → Y) → ((x : X) → f x ≡ g x) → (xs : List X) → map f xs ≡ map g xs
alike f g same [] = refl
alike f g same (x ∷ xs) = ap₂ (λ y ys. y ∷ ys) (same x) (alike f g same xs)

lines_alike : (f g : ℕ → List ℕ) → ((x : ℕ) → f x ≡ g x) → (xs : List ℕ) → flat_map f xs ≡ flat_map g xs
lines_alike f g same [] = refl
lines_alike f g same (x ∷ xs) = ap₂ (λ (y ys : List ℕ). y ++ ys) (same x) (lines_alike f g same xs)

module _ (i : CheckInputs) (setting : Setting) (is : IsSettingOf i.plan setting)
    (spans : shown_spans (word_events setting i.words) ≡ spans_around i)
    (packets : (channel : ℕ) → packets_on channel (word_events setting i.words) ≡ whole_packets i channel)
    (told : list_all drops_as_told (word_events setting i.words) ≡ true) where
  abbrev outputs : List Event
  outputs = word_events setting i.words

  files_are : (received_outcome setting i.plan.link_type i.plan.out [] outputs).files
      ≡ map (capture_of_whole i) (channels_in_order (numbers_in i.plan)) ++ record { name = spans_name i.plan.out; content = span_table (spans_around i) } ∷ []
  files_are =
      ap (λ (cs : List ℕ). map (capture_file i.plan.link_type i.plan.out outputs) cs ++ record { name = spans_name i.plan.out; content = span_table (shown_spans outputs) } ∷ []) is.channels
      ∙ ap₂ (λ (os : List Output) (ss : List Span). os ++ record { name = spans_name i.plan.out; content = span_table ss } ∷ [])
      (alike (capture_file i.plan.link_type i.plan.out outputs) (capture_of_whole i)
      (λ channel. ap (λ (ps : List (List ℕ)). record { name = capture_name i.plan.out channel; content = capture_bytes i.plan.link_type ps }) (packets channel)) (channels_in_order (numbers_in i.plan)))
      spans

  text_is : (received_outcome setting i.plan.link_type i.plan.out [] outputs).text
      ≡ flat_map (line_of_whole i) (channels_in_order (numbers_in i.plan))
      ++ (spans_line (length (spans_around i)) ++ dropped_line (0 ∷ 0 ∷ 0 ∷ 0 ∷ drops_at outputs 4 ∷ 0 ∷ 0 ∷ drops_at outputs 7 ∷ []))
  text_is =
      ap (λ (cs : List ℕ). flat_map (channel_line outputs) cs ++ (spans_line (length (shown_spans outputs)) ++ dropped_line (drop_counts outputs))) is.channels
      ∙ ap₂ (λ (ls : List ℕ) (ss : List Span). ls ++ (spans_line (length ss) ++ dropped_line (drop_counts outputs)))
      (lines_alike (channel_line outputs) (line_of_whole i)
      (λ channel. ap (λ (ps : List (List ℕ)). got_line channel (length ps) (sum_by length ps)) (packets channel)) (channels_in_order (numbers_in i.plan)))
      spans
      ∙ ap (λ (ns : List ℕ). flat_map (line_of_whole i) (channels_in_order (numbers_in i.plan)) ++ (spans_line (length (spans_around i)) ++ dropped_line ns)) (counts_are outputs told)

  received_whole : (joined : Outcome) → joined ≡ received_outcome setting i.plan.link_type i.plan.out [] outputs → IsReceivedWhole i joined
  received_whole joined made = record {
    status = ap (λ (o : Outcome). o.status) made;
    files = ap (λ (o : Outcome). o.files) made ∙ files_are;
    for_the_end = drops_at outputs 4;
    by_the_sender = drops_at outputs 7;
    text = ap (λ (o : Outcome). o.text) made ∙ text_is;
  }

-- both commands read the same words
words_there : (files : Files) (name : List ℕ) (i : CheckInputs) → check_inputs_in files name ≡ Ok i → plan_words_in files name ≡ Ok (record { plan = i.plan; words = i.words })
words_there files name i e =
    let (plan, had, next) = behind_ok (plan_in files name) (with_flow files) i e in
    let (flow, rows, last) = behind_ok (rows_in files [] flow_of plan.flow) (with_words files plan) i next in
    let (words, are, all) = behind_ok (words_in files (words_name plan.out)) (λ ws. Ok (record { plan = plan; flow = flow; words = ws })) i last in
    let same : record { plan = plan; flow = flow; words = words } ≡ i = cc in
    let there : plan_words_in files name ≡ Ok (record { plan = plan; words = words }) =
    ap (λ r. behind r (join.with_words files)) had ∙ ap (λ r. behind r (λ ws. Ok (record { plan = plan; words = ws }))) are in
    subst (λ (j : CheckInputs). plan_words_in files name ≡ Ok (record { plan = j.plan; words = j.words })) same there

pub join_receives_whole : LawOnSpans → LawOnDelivered → LawOnDrops → WorkedTables → JoinReceivesWhole
join_receives_whole on_spans on_delivered on_drops tables name files i checked joined read checks none joins =
    let is_checked : IsChecked i checked = subst (λ (r : Result CheckInputs Refusal). MatchResult r (λ j. IsChecked j checked) (λ why. checked ≡ refused_outcome why)) read checks in
    let no_fault : faults (rules_of i.plan i.flow) i.words ≡ [] = none_found i.plan.out (length i.words) checked (faults_found i) tables is_checked none in
    let joined_by : IsJoined (record { plan = i.plan; words = i.words }) joined =
    subst (λ (r : Result PlanWords Refusal). MatchResult r (λ p. IsJoined p joined) (λ why. joined ≡ refused_outcome why)) (words_there files name i read) joins in
    let (setting, is, made) = joined_by in
    let said = says i.plan i.flow setting is in
    received_whole i setting is
    (on_spans setting (rules_of i.plan i.flow) i.words no_fault)
    (λ channel.
    ap (λ (ps : List Packet). map (λ (p : Packet). p.bytes) ps) (on_delivered setting (rules_of i.plan i.flow) i.words channel said no_fault)
    ∙ ap (λ (wide : Bool). packets_on channel (told_at channel (own_bursts wide channel i.words))) is.wide)
    (on_drops setting (rules_of i.plan i.flow) i.words said no_fault)
    joined made

-- `check` after `burst` tells no fault.
use Rattle.std.proofs.Common.{◌≡◌, ℕ, ◌<◌, ◌≤◌, ◌^◌, Bool, true, false, List, [], ◌∷◌, ◌++◌, length, map, get_or, All, Contains, refl, sym, ap, ap₂, ◌∙◌, subst, arith, nat_lt, cond, Some, None, Ok, MatchResult}
use Rattle.std.specs.Fmt.{digits}
use Rattle.std.specs.List.{flat_map}
use Rattle.std.proofs.lemmas.Bool.{false_from_ne_true, ltb-true}
use Rattle.std.proofs.lemmas.List.{get_or_default, length-map}
use Rattle.std.proofs.lemmas.Option.{slice_get-get_or}
use lib.Chars.{codes}
use Rattle.lk_base.specs.Limits.{words_limit}
use Rattle.lk_base.specs.Words.{as_sent, payload}
use Rattle.lk_base.specs.declared.word.Word.{Word}
use Rattle.lk_outside.specs.Files.{Files, file, AreBytes}
use Rattle.stream_model.specs.BurstStream.{Source, IsBurstStream}
use Rattle.delivery_laws.specs.LawOnWords.{NumbersFit}
use Rattle.words_files.specs.WordsFile.{words_file}
use Rattle.words_files.specs.WordsOfFile.{words_of_file}
use Rattle.words_files.proofs.Again.{written-again}
use Rattle.link_plan.specs.Listing.{channels_in_order}
use Rattle.link_plan.specs.Plan.{PlanValue}
use Rattle.link_plan.specs.Views.{numbers_in}
use Rattle.link_reports.specs.Lines.{count_line, line_end}
use Rattle.plan_inputs.specs.Inputs.{Inputs, plan_in, inputs_in}
use Rattle.plan_inputs.specs.Sources.{IsSourceOf}
use Rattle.plan_inputs.proofs.PlanChannels.{narrow_source}
use Rattle.plan_inputs.proofs.PlanStream.{AreFit, inputs_packets, planned_parts}
use Rattle.plan_inputs.proofs.SomeSource.{plan_keeps}
use Rattle.run_stops.specs.Reading.{behind, bytes_by, bytes_in}
use Rattle.run_stops.specs.WordsInputs.{words_by, words_in}
use Rattle.run_shell.specs.Names.{words_name}
use Rattle.run_shell.specs.Outcome.{Outcome, Output, content_of}
use Rattle.run_shell.specs.Work.{refused_outcome}
use Rattle.run_shell.proofs.Fills.{same}
use Rattle.rule_laws.specs.Law.{IsPlanOf}
use Rattle.rule_laws.proofs.AllKept.{breaks_none}
use Rattle.word_rules.specs.Faults.{faults}
use Rattle.word_rules.specs.Names.{all_rules}
use Rattle.word_rules.specs.declared.fault.Fault.{Fault}
use Rattle.check_commands.specs.AfterBurst.{CheckAfterBurst, TellsNoFault}
use Rattle.check_commands.specs.Check.{IsChecked, check_inputs_in, faults_name, rules_of, told_outcome, with_flow, with_words}
use Rattle.check_commands.specs.Table.{rule_line_of}
use Rattle.check_commands.proofs.Examples.{worked_tables}

-- ---- the words that `burst` wrote are read

-- a file within the limit is read whole
read_within : (name : List ℕ) (limit : ℕ) (bytes : List ℕ) → length bytes ≤ limit → bytes_by name limit (Some bytes) ≡ Ok bytes
read_within name limit bytes le =
    let e : nat_lt limit (length bytes) ≡ false = false_from_ne_true (nat_lt limit (length bytes)) (λ t. let lt = ltb-true limit (length bytes) t in omega arith) in
    rw e refl

each_sized : (source : Source) (w : List Word) → IsBurstStream source w → All (λ word. payload word < 2 ^ 64) w
each_sized source w stream = λ k d lt. stream.sized k (get_or w k d) (slice_get-get_or w k d lt)

words_there : (files : Files) (name : List ℕ) (w : List Word) → All (λ word. payload word < 2 ^ 64) w → file files name ≡ Some (words_file w) → length (words_file w) ≤ words_limit → words_in files name ≡ Ok (map as_sent w)
words_there files name w sized there fits =
    let had : bytes_in files name words_limit ≡ Ok (words_file w) = ap (bytes_by name words_limit) there ∙ read_within name words_limit (words_file w) fits in
    ap (λ r. behind r (λ bytes. words_by name (words_of_file bytes))) had ∙ ap (words_by name) (written-again w sized)

-- the content of the one output
one_content : (name given content : List ℕ) (files : List Output) → files ≡ record { name = name; content = given } ∷ [] → content_of files name ≡ Some content → given ≡ content
one_content name given content files is e =
    let here : content_of (record { name = name; content = given } ∷ []) name ≡ Some given = ap (λ b. cond b (Some given) None) (same name) in
    let all : Some given ≡ Some content = sym here ∙ ap (λ (os : List Output). content_of os name) (sym is) ∙ e in
    cc

-- ---- the rules of `check` are those of the source of `burst`

own_listed : (xs : List ℕ) → All (Contains xs) xs
own_listed xs k d below = (k, below, get_or_default xs k (get_or xs k d) d below)

fit_numbers : (wide : Bool) (source : Source) → (wide ≡ false → All (λ channel. channel < 256) source.channels) → NumbersFit wide source
fit_numbers true source below = tt
fit_numbers false source below = below refl

module _ (files : Files) (name : List ℕ) (plan : PlanValue) (inputs : Inputs) (source : Source) (had : plan_in files name ≡ Ok plan) (of : IsSourceOf plan inputs source) where
  rules_are : AreBytes files → inputs_in files plan ≡ Ok inputs → IsPlanOf (rules_of plan inputs.flow) source
  rules_are are read = record {
    burst_max = sym of.shape.burst_max;
    burst_short = sym of.shape.burst_short;
    burst_min = sym of.shape.burst_min;
    packets = subst (AreFit plan.settings.max_packet) (sym of.packets) (inputs_packets files plan inputs are read);
    numbers = fit_numbers plan.wide source (narrow_source files name plan inputs source had of);
    listed = subst (λ (cs : List ℕ). All (Contains (channels_in_order (numbers_in plan))) cs) (sym of.channels) (own_listed (channels_in_order (numbers_in plan)));
    entries = sym of.entries;
    flow = sym of.flow;
  }

  some_entry : 1 ≤ length source.entries
  some_entry = subst (λ (es : List ℕ). 1 ≤ length es) (sym of.entries) (plan_keeps files name plan had).calendar.some_entries

-- ---- what is told of no fault

no_rule : count_line (codes "faults") 0 ++ flat_map (rule_line_of []) all_rules ≡ codes "faults 0" ++ line_end
unfolding digits
no_rule = refl

told_none : (out : List ℕ) (words : ℕ) (o : Outcome) → o ≡ told_outcome out words [] → TellsNoFault out words o
told_none out words o is = record {
  status = ap (λ (p : Outcome). p.status) is;
  table = ap (λ (p : Outcome). p.files) is ∙ ap (λ (table : List ℕ). record { name = faults_name out; content = table } ∷ []) worked_tables.none;
  text = ap (λ (p : Outcome). p.text) is ∙ ap (λ (rest : List ℕ). count_line (codes "words") words ++ rest) no_rule;
}

pub check_after_burst : CheckAfterBurst
check_after_burst name i burst check before files content are read (w, h) plan flow given there fits checked =
    let out = i.plan.out in
    let (had, inputs) = planned_parts before name i read in
    let stream = h.of_stream.stream in
    let none : faults (rules_of i.plan i.inputs.flow) (map as_sent w) ≡ [] =
    breaks_none h.source (rules_of i.plan i.inputs.flow) w
    (some_entry before name i.plan i.inputs h.source had h.is_source)
    (rules_are before name i.plan i.inputs h.source had h.is_source are inputs) stream
    in
    let written : words_file w ≡ content = one_content (words_name out) (words_file w) content burst.files h.of_stream.files given in
    let stands : file files (words_name out) ≡ Some (words_file w) = there ∙ ap Some (sym written) in
    let within : length (words_file w) ≤ words_limit = subst (λ (c : List ℕ). length c ≤ words_limit) (sym written) fits in
    let words : words_in files (words_name out) ≡ Ok (map as_sent w) = words_there files (words_name out) w (each_sized h.source w stream) stands within in
    let all : check_inputs_in files name ≡ Ok (record { plan = i.plan; flow = i.inputs.flow; words = map as_sent w }) =
    ap (λ r. behind r (with_flow files)) plan
    ∙ ap (λ r. behind r (with_words files i.plan)) flow
    ∙ ap (λ r. behind r (λ ws. Ok (record { plan = i.plan; flow = i.inputs.flow; words = ws }))) words
    in
    let made : IsChecked (record { plan = i.plan; flow = i.inputs.flow; words = map as_sent w }) check = subst (λ r. MatchResult r (λ j. IsChecked j check) (λ e. check ≡ refused_outcome e)) all checked in
    let told : check ≡ told_outcome out (length w) [] = made ∙ ap₂ (λ (n : ℕ) (found : List Fault). told_outcome out n found) (length-map w as_sent) none in
    (w, h, told_none out (length w) check told)

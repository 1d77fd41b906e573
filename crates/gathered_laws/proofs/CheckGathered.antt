-- `check` after `send` and `gather` tells no fault.
use Rattle.std.proofs.Common.{◌≡◌, ℕ, zero, suc, ◌*◌, ◌<◌, ◌≤◌, ◌^◌, Bool, true, false, List, [], ◌∷◌, ◌++◌, drop, length, map, nat_lt, All, Contains, get_or, refl, sym, ap, ap₂, ◌∙◌, subst, arith, Some, Ok, MatchResult}
use Rattle.std.specs.Fmt.{digits}
use Rattle.std.specs.List.{flat_map}
use Rattle.std.proofs.lemmas.Bool.{false_from_ne_true, ltb-true}
use Rattle.std.proofs.lemmas.List.{get_or_default, length-map}
use Rattle.std.proofs.lemmas.List.Elements.{All-cons, All-nil}
use lib.Chars.{codes}
use Rattle.lk_base.specs.Limits.{words_limit}
use Rattle.lk_base.specs.Link.{group_of}
use Rattle.lk_base.specs.Words.{as_sent, number_of, payload}
use Rattle.lk_base.specs.declared.word.RxWord.{RxWord}
use Rattle.lk_base.specs.declared.word.Word.{Word}
use Rattle.lk_base.specs.declared.word.Word.TheVariants.{Data, Control}
use Rattle.lk_outside.specs.Files.{Files, file, AreBytes}
use Rattle.stream_model.specs.BurstStream.{Source, IsAt}
use Rattle.stream_model.specs.declared.rows.FlowRow.{FlowRow}
use Rattle.delivery_laws.specs.LawOnWords.{NumbersFit}
use Rattle.word_rules.specs.Faults.{faults}
use Rattle.word_rules.specs.declared.fault.Fault.{Fault}
use Rattle.rule_laws.specs.Law.{IsPlanOf}
use Rattle.words_files.specs.WordsOfFile.{words_of_file}
use Rattle.lane_words.specs.GatheredLaws.{WrittenIsRead}
use Rattle.lane_words.specs.WordsFile.{rx_words_file}
use Rattle.link_plan.specs.Listing.{channels_in_order}
use Rattle.link_plan.specs.Plan.{PlanValue}
use Rattle.link_plan.specs.Timed.{flow_of}
use Rattle.link_plan.specs.Views.{numbers_in}
use Rattle.link_reports.specs.Lines.{count_line, line_end}
use Rattle.plan_inputs.specs.Inputs.{Inputs, plan_in, inputs_in, rows_in}
use Rattle.plan_inputs.specs.Sources.{IsSourceOf}
use Rattle.plan_inputs.proofs.PlanChannels.{narrow_source}
use Rattle.plan_inputs.proofs.PlanStream.{AreFit, inputs_packets, planned_parts}
use Rattle.plan_inputs.proofs.SomeSource.{plan_keeps}
use Rattle.run_stops.specs.Reading.{behind, bytes_by, bytes_in}
use Rattle.run_stops.specs.WordsInputs.{words_by, words_in}
use Rattle.run_shell.specs.Names.{words_name}
use Rattle.run_shell.specs.Outcome.{Outcome}
use Rattle.run_shell.specs.Work.{refused_outcome}
use Rattle.check_commands.specs.AfterBurst.{TellsNoFault}
use Rattle.check_commands.specs.Check.{IsChecked, check_inputs_in, faults_name, rules_of, told_outcome, with_flow, with_words}
use Rattle.check_commands.specs.CheckLaws.{WorkedTables}
use Rattle.word_rules.specs.Names.{all_rules}
use Rattle.check_commands.specs.Table.{rule_line_of}
use Rattle.gathered_laws.specs.AfterSend.{CheckAfterGather, GatherAfterSend, later_words}
use Rattle.gathered_laws.proofs.Warmup.{none_from_warmup, three_in_warmup}

-- ---- the words are read as they were written

rx_sized : (word : Word) → payload word < 2 ^ 64 → number_of (as_sent word) < 2 ^ 64
rx_sized (Data x) h = h
rx_sized (Control x) h = h

all_sized : (w : List Word) → ((t : ℕ) (word : Word) → IsAt w t word → payload word < 2 ^ 64) → All (λ word. number_of word < 2 ^ 64) (map as_sent w)
all_sized [] h = All-nil (λ word. number_of word < 2 ^ 64)
all_sized (x ∷ w) h = All-cons (λ word. number_of word < 2 ^ 64) (as_sent x) (map as_sent w) (rx_sized x (h 0 x refl)) (all_sized w (λ t word at. h (suc t) word at))

later_sized : (n : ℕ) (w : List Word) → ((t : ℕ) (word : Word) → IsAt w t word → payload word < 2 ^ 64) → All (λ word. number_of word < 2 ^ 64) (map as_sent (drop n w))
later_sized zero w h = all_sized w h
later_sized (suc n) [] h = All-nil (λ word. number_of word < 2 ^ 64)
later_sized (suc n) (x ∷ w) h = later_sized n w (λ t word at. h (suc t) word at)

-- a file within the limit is read whole
pub read_within : (name : List ℕ) (limit : ℕ) (bytes : List ℕ) → length bytes ≤ limit → bytes_by name limit (Some bytes) ≡ Ok bytes
read_within name limit bytes le =
    let e : nat_lt limit (length bytes) ≡ false = false_from_ne_true (nat_lt limit (length bytes)) (λ t. let lt = ltb-true limit (length bytes) t in omega arith) in
    rw e refl

pub words_there : WrittenIsRead → (files : Files) (name : List ℕ) (n : ℕ) (w : List Word) → ((t : ℕ) (word : Word) → IsAt w t word → payload word < 2 ^ 64) → file files name ≡ Some (rx_words_file (map as_sent (drop n w)))
    → length (rx_words_file (map as_sent (drop n w))) ≤ words_limit → words_in files name ≡ Ok (map as_sent (drop n w))
words_there law files name n w sized there fits =
    let bytes : List ℕ = rx_words_file (map as_sent (drop n w)) in
    let had : bytes_in files name words_limit ≡ Ok bytes = ap (bytes_by name words_limit) there ∙ read_within name words_limit bytes fits in
    ap (λ r. behind r (λ b. words_by name (words_of_file b))) had ∙ ap (words_by name) (law (map as_sent (drop n w)) (later_sized n w sized))

-- the plan, the rows and the words that `check` reads
pub all_read : (files : Files) (name : List ℕ) (plan : PlanValue) (flow : List FlowRow) (words : List RxWord) → plan_in files name ≡ Ok plan → rows_in files [] flow_of plan.flow ≡ Ok flow → words_in files (words_name plan.out) ≡ Ok words
    → check_inputs_in files name ≡ Ok (record { plan = plan; flow = flow; words = words })
all_read files name plan flow words is_plan are_rows are_words =
    ap (λ r. behind r (with_flow files)) is_plan
    ∙ ap (λ r. behind r (with_words files plan)) are_rows
    ∙ ap (λ r. behind r (λ ws. Ok (record { plan = plan; flow = flow; words = ws }))) are_words

-- ---- the rules of `check` are those of the source of `send`

own_listed : (xs : List ℕ) → All (Contains xs) xs
own_listed xs k d below = (k, below, get_or_default xs k (get_or xs k d) d below)

fit_numbers : (wide : Bool) (source : Source) → (wide ≡ false → All (λ channel. channel < 256) source.channels) → NumbersFit wide source
fit_numbers true source below = tt
fit_numbers false source below = below refl

module _ (files : Files) (name : List ℕ) (plan : PlanValue) (inputs : Inputs) (source : Source) (had : plan_in files name ≡ Ok plan) (of : IsSourceOf plan inputs source) where
  rules_are : AreBytes files → inputs_in files plan ≡ Ok inputs → IsPlanOf (rules_of plan inputs.flow) source
  rules_are are read = record {
    burst_max = sym of.shape.burst_max;
    burst_short = sym of.shape.burst_short;
    burst_min = sym of.shape.burst_min;
    packets = subst (AreFit plan.settings.max_packet) (sym of.packets) (inputs_packets files plan inputs are read);
    numbers = fit_numbers plan.wide source (narrow_source files name plan inputs source had of);
    listed = subst (λ (cs : List ℕ). All (Contains (channels_in_order (numbers_in plan))) cs) (sym of.channels) (own_listed (channels_in_order (numbers_in plan)));
    entries = sym of.entries;
    flow = sym of.flow;
  }

  some_entry : 1 ≤ length source.entries
  some_entry = subst (λ (es : List ℕ). 1 ≤ length es) (sym of.entries) (plan_keeps files name plan had).calendar.some_entries

  -- a plan's warm-up has four groups at least
  long_warmup : 3 ≤ source.shape.warmup
  long_warmup = let four = (plan_keeps files name plan had).link.warmup.0 in let is = of.shape.warmup in omega (arith, four, is)

-- ---- what is told of no fault

no_rule : count_line (codes "faults") 0 ++ flat_map (rule_line_of []) all_rules ≡ codes "faults 0" ++ line_end
unfolding digits
no_rule = refl

told_none : WorkedTables → (out : List ℕ) (words : ℕ) (o : Outcome) → o ≡ told_outcome out words [] → TellsNoFault out words o
told_none tables out words o is = record {
  status = ap (λ (p : Outcome). p.status) is;
  table = ap (λ (p : Outcome). p.files) is ∙ ap (λ (table : List ℕ). record { name = faults_name out; content = table } ∷ []) tables.none;
  text = ap (λ (p : Outcome). p.text) is ∙ ap (λ (rest : List ℕ). count_line (codes "words") words ++ rest) no_rule;
}

pub check_after_gather : GatherAfterSend → WrittenIsRead → WorkedTables → CheckAfterGather
check_after_gather after_send written tables name i send gathered check before lanes words read are planned no_flow sends r gathers c checked =
    let out = i.plan.out in
    let (had, inputs) = planned_parts before name i planned in
    let g = after_send name i send gathered before lanes read are planned sends r gathers in
    let w = g.stream in
    let h = g.is_stream in
    let later : List Word = later_words i.plan.settings w in
    let stream = h.of_stream.stream in
    let warm = three_in_warmup h.source (long_warmup before name i.plan i.inputs h.source had h.is_source) in
    let none : faults (rules_of i.plan i.inputs.flow) (map as_sent later) ≡ [] =
    subst (λ (n : ℕ). faults (rules_of i.plan i.inputs.flow) (map as_sent (drop (3 * n) w)) ≡ []) h.is_source.shape.group
    (none_from_warmup h.source (rules_of i.plan i.inputs.flow) w (3 * h.source.shape.group)
    (some_entry before name i.plan i.inputs h.source had h.is_source)
    (rules_are before name i.plan i.inputs h.source had h.is_source are inputs) stream (h.is_source.flow ∙ no_flow) warm)
    in
    let bytes : List ℕ = rx_words_file (map as_sent later) in
    let was : c.content ≡ bytes = (let all : Some c.content ≡ Some bytes = sym c.given ∙ g.words in cc) in
    let there : file words (words_name out) ≡ Some bytes = c.there ∙ ap Some was in
    let within : length bytes ≤ words_limit = subst (λ (b : List ℕ). length b ≤ words_limit) was c.fits in
    let had_words : words_in words (words_name out) ≡ Ok (map as_sent later) = words_there written words (words_name out) (3 * group_of i.plan.settings) w stream.sized there within in
    let all = all_read words name i.plan i.inputs.flow (map as_sent later) c.plan c.flow had_words in
    let made : IsChecked (record { plan = i.plan; flow = i.inputs.flow; words = map as_sent later }) check = subst (λ x. MatchResult x (λ j. IsChecked j check) (λ e. check ≡ refused_outcome e)) all checked in
    let told : check ≡ told_outcome out (length later) [] = made ∙ ap₂ (λ (n : ℕ) (found : List Fault). told_outcome out n found) (length-map later as_sent) none in
    (w, h, told_none tables out (length later) check told)

-- A run of Data words that shows no fault.
use Rattle.std.proofs.Common.{ℕ, suc, ◌+◌, ◌^◌, ◌≡◌, ◌<◌, refl, sym, ap, ap₂, ◌∙◌, subst, List, [], ◌∷◌, ◌++◌, length, map, reverse, None, append_assoc, append-nil, cond, nat_lt, Some, Bool, true, false, ◌&&◌, arith}
use Rattle.std.proofs.lemmas.List.{length-append, reverse-append}
use Rattle.lk_base.specs.declared.word.RxWord.{RxWord}
use Rattle.lk_base.specs.declared.word.RxWord.TheVariants.{Data, Control, Bad}
use Rattle.lk_base.specs.Fields.{channel_number}
use Rattle.word_rules.specs.declared.checker.Checker.{Checker}
use Rattle.word_rules.specs.declared.fault.Fault.{Fault}
use Rattle.word_rules.specs.Checks.{Keeps}
use Rattle.word_rules.specs.declared.limits.WordLimits.{WordLimits}
use Rattle.word_rules.specs.declared.rule.WordRule.TheVariants as rules
use Rattle.word_rules.specs.Places.{is_burst_word}
use Rattle.word_rules.specs.Faults.{data_rows, empty_rows, faults_from, row}
use Rattle.word_rules.specs.Runs.{run_after}
use Rattle.live_checker.specs.Calls.{AreTaken, flow_refusal, word_refusal}
use Rattle.live_checker.specs.Live.{live_faults}
use Rattle.live_checker.specs.Standing.{Checked, Checks, with_word, with_words}
use Rattle.live_checker.specs.States.{state}
use Rattle.live_checker.specs.declared.misuse.Misuse.TheVariants as misuses
use Rattle.live_checker.proofs.Standing.{all_given, all_out, not_many, word_free}
use Rattle.live_checker.proofs.Words.{live_push, none_later_more, reverse_push}

abbrev pub datas : List ℕ → List RxWord
datas run = map (λ (n : ℕ). Data n) run

none_left : (one other : List Fault) → one ++ other ≡ [] → one ≡ []
none_left [] other e = refl
none_left (row ∷ one) other e = absurd (cc e)

none_right : (one other : List Fault) → one ++ other ≡ [] → other ≡ []
none_right [] other e = e
none_right (row ∷ one) other e = absurd (cc e)

-- what was given, with these words after it
with_words_is : (words : List RxWord) (x : Checked) → with_words words x ≡ record { plan = x.plan; words = x.words ++ words; given = x.given; finished = x.finished }
with_words_is [] x = ap (λ (l : List RxWord). record { plan = x.plan; words = l; given = x.given; finished = x.finished }) (sym (append-nil x.words))
with_words_is (word ∷ words) x =
    with_words_is words (with_word word x)
    ∙ ap (λ (l : List RxWord). record { plan = x.plan; words = l; given = x.given; finished = x.finished }) (append_assoc x.words (word ∷ []) words)

and_false : (b : Bool) → (b && false) ≡ false
and_false true = refl
and_false false = refl

-- a Data word shows no row of `empty`
no_empty : (s : WordLimits) (e : List RxWord) (n : ℕ) → empty_rows s e (Data n) ≡ []
no_empty s [] n = refl
no_empty s (Data m ∷ e) n = refl
no_empty s (Control m ∷ e) n = ap (λ (b : Bool). row (length e) rules.Empty (Some (channel_number s.wide m)) b) (and_false (is_burst_word m))
no_empty s (Bad ∷ e) n = refl

-- a Data word without a fault shows nothing
quiet_word : (x : Checked) (n : ℕ) → data_rows x.plan.limits (reverse x.words) ≡ [] → live_faults x.plan (x.words ++ Data n ∷ []) ≡ live_faults x.plan x.words
quiet_word x n none =
    live_push x.plan x.words (Data n)
    ∙ ap (λ (rows : List Fault). live_faults x.plan x.words ++ rows) (ap₂ (λ (one other : List Fault). one ++ other) (no_empty x.plan.limits (reverse x.words) n) none)
    ∙ append-nil (live_faults x.plan x.words)

-- so the next word is not refused
still_free : (x : Checked) (n : ℕ) → word_refusal x ≡ None → data_rows x.plan.limits (reverse x.words) ≡ [] → suc (length x.words) < 2 ^ 57 → word_refusal (with_word (Data n) x) ≡ None
still_free x n free none few =
    let count : length (x.words ++ Data n ∷ []) ≡ suc (length x.words) = (let l = length-append x.words (Data n ∷ []) in omega arith) in
    let same : flow_refusal (with_word (Data n) x) ≡ flow_refusal x =
    ap (λ (rows : List Fault). cond x.finished (Some misuses.Finished) (cond (nat_lt (length x.given) (length rows)) (Some misuses.Waiting) None)) (quiet_word x n none) in
    sym (not_many (with_word (Data n) x) (same ∙ (word_free x free).0) (omega (arith, count, few)))

-- none of the words of a run without a fault is refused
pub run_taken : (run : List ℕ) (x : Checked) → word_refusal x ≡ None → length x.words + length run < 2 ^ 57 → faults_from x.plan (reverse x.words) (datas run) ≡ [] → AreTaken (datas run) x
run_taken [] x free few none = tt
run_taken (n ∷ []) x free few none = (free, tt)
run_taken (n ∷ m ∷ run) x free few none =
    let count : length (x.words ++ Data n ∷ []) ≡ suc (length x.words) = (let l = length-append x.words (Data n ∷ []) in omega arith) in
    let rows = none_left (data_rows x.plan.limits (reverse x.words)) (faults_from x.plan (Data n ∷ reverse x.words) (datas (m ∷ run))) none in
    let rest = none_right (data_rows x.plan.limits (reverse x.words)) (faults_from x.plan (Data n ∷ reverse x.words) (datas (m ∷ run))) none in (
      free,
      run_taken (m ∷ run) (with_word (Data n) x) (still_free x n free rows (omega (arith, few))) (omega (arith, count, few))
          (subst (λ (e : List RxWord). faults_from x.plan e (datas (m ∷ run)) ≡ []) (sym (reverse_push x.words (Data n))) rest),
    )

-- nor do they show one
run_shows : (run : List ℕ) (x : Checked) → faults_from x.plan (reverse x.words) (datas run) ≡ [] → live_faults x.plan (x.words ++ datas run) ≡ live_faults x.plan x.words
run_shows [] x none = ap (live_faults x.plan) (append-nil x.words)
run_shows (n ∷ run) x none =
    let rows = none_left (data_rows x.plan.limits (reverse x.words)) (faults_from x.plan (Data n ∷ reverse x.words) (datas run)) none in
    let rest = none_right (data_rows x.plan.limits (reverse x.words)) (faults_from x.plan (Data n ∷ reverse x.words) (datas run)) none in
    ap (live_faults x.plan) (sym (append_assoc x.words (Data n ∷ []) (datas run)))
    ∙ run_shows run (with_word (Data n) x) (subst (λ (e : List RxWord). faults_from x.plan e (datas run) ≡ []) (sym (reverse_push x.words (Data n))) rest)
    ∙ quiet_word x n rows

run_reversed : (run : List ℕ) (e : List RxWord) → run_after e run ≡ reverse (datas run) ++ e
run_reversed [] e = refl
run_reversed (n ∷ run) e =
    run_reversed run (Data n ∷ e)
    ∙ sym (ap (λ (l : List RxWord). l ++ e) (reverse-append (Data n ∷ []) (datas run)) ∙ append_assoc (reverse (datas run)) (Data n ∷ []) e)

length_datas : (run : List ℕ) → length (datas run) ≡ length run
length_datas [] = refl
length_datas (n ∷ run) = ap suc (length_datas run)

-- what the run keeps of a checker's standing
pub run_kept : (c : Checker) (found : List Fault) (given : ℕ) (finished : Bool) (x : Checked) (k : Checks (state c found given finished) x) (new : Checker) (run : List ℕ) →
    word_refusal x ≡ None → length x.words + length run < 2 ^ 57 → Keeps new x.plan (run_after (reverse x.words) run) → faults_from x.plan (reverse x.words) (datas run) ≡ [] →
    Checks (state new [] 0 finished) (with_words (datas run) x)
run_kept c found given finished x k new run free few keeps none =
    let count : length (x.words ++ datas run) ≡ length x.words + length run = length-append x.words (datas run) ∙ ap (λ (n : ℕ). length x.words + n) (length_datas run) in
    let back : run_after (reverse x.words) run ≡ reverse (x.words ++ datas run) = run_reversed run (reverse x.words) ∙ sym (reverse-append x.words (datas run)) in
    subst (λ (y : Checked). Checks (state new [] 0 finished) y) (sym (with_words_is (datas run) x)) (record {
      keeps = subst (λ (e : List RxWord). Keeps new x.plan e) back keeps;
      few = omega (arith, count, few);
      heard = none_later_more x.plan.flow (length x.words) (length (x.words ++ datas run)) (omega (arith, count)) k.heard;
      in_order = k.in_order;
      told = append-nil x.given
          ∙ all_given c found given finished x k (all_out c found given finished x k (word_free x free).0)
          ∙ sym (run_shows run x none);
      ended = k.ended;
    })

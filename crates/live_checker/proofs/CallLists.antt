-- Any list of calls on a checker.
use Rattle.std.proofs.Common.{ℕ, ◌≡◌, refl, sym, ap₂, ◌∙◌, subst, Bool, true, false, ◌||◌, List, [], ◌∷◌, ◌++◌, map, Some, None, Ok, Err, append_assoc, append-nil}
use Rattle.lk_base.specs.declared.word.RxWord.{RxWord}
use Rattle.lk_base.specs.declared.word.RxWord.TheVariants.{Data}
use Rattle.word_rules.specs.declared.fault.Fault.{Fault}
use Rattle.word_rules.specs.Faults.{Plan}
use Rattle.live_checker.specs.Laws.{Input, GiveWord, after, told_of}
use Rattle.live_checker.specs.Standing.{Checked, Checks, nothing_checked, with_end, with_given, with_heard, with_word, with_words}
use Rattle.live_checker.specs.States.{State}
use Rattle.live_checker.specs.CallLists.{AreCalls, Finish, Flow, Next, Refusal, Run, Call, CallsCheck, CallsTellFaults, Word, all_inputs, all_got, are_ended}
use Rattle.live_checker.proofs.Called.{on_calls, plan_after, words_after}

-- what is told is of the plan and the words alone
of_parts : (one other : Checked) (given : List Fault) (finished : Bool) → one.plan ≡ other.plan → one.words ≡ other.words → told_of one given finished ≡ told_of other given finished
of_parts one other given finished plan words = ap₂ (λ (p : Plan) (ws : List RxWord). record { plan = p; words = ws; given = given; finished = finished }) plan words

-- calls after one that gave nothing
gave_back : (inputs : List Input) (fault : Fault) (x : Checked) (given : List Fault) (finished : Bool) → told_of (after inputs (with_given fault x)) given finished ≡ told_of (after inputs x) given finished
gave_back inputs fault x given finished =
    of_parts (after inputs (with_given fault x)) (after inputs x) given finished
    (plan_after inputs (with_given fault x) ∙ sym (plan_after inputs x)) (words_after inputs (with_given fault x) ∙ sym (words_after inputs x))

ended : (inputs : List Input) (x : Checked) (given : List Fault) (finished : Bool) → told_of (after inputs (with_end x)) given finished ≡ told_of (after inputs x) given finished
ended inputs x given finished =
    of_parts (after inputs (with_end x)) (after inputs x) given finished
    (plan_after inputs (with_end x) ∙ sym (plan_after inputs x)) (words_after inputs (with_end x) ∙ sym (words_after inputs x))

-- words one after another
run_after : (run : List ℕ) (inputs : List Input) (x : Checked) → after (map (λ (n : ℕ). GiveWord (Data n)) run ++ inputs) x ≡ after inputs (with_words (map (λ (n : ℕ). Data n) run) x)
run_after [] inputs x = refl
run_after (n ∷ run) inputs x = run_after run inputs (with_word (Data n) x)

run_given : (words : List RxWord) (x : Checked) → (with_words words x).given ≡ x.given
run_given [] x = refl
run_given (word ∷ words) x = run_given words (with_word word x)

run_finished : (words : List RxWord) (x : Checked) → (with_words words x).finished ≡ x.finished
run_finished [] x = refl
run_finished (word ∷ words) x = run_finished words (with_word word x)

or_true : (b e : Bool) → true ≡ (b || (true || e))
or_true true e = refl
or_true false e = refl

or_false : (b : Bool) → b ≡ (b || false)
or_false true = refl
or_false false = refl

-- what was given by these calls after what was given before
abbrev so_far : Checked → List Call → Checked
so_far x calls = told_of (after (all_inputs calls) x) (x.given ++ all_got calls) (x.finished || are_ended calls)

untouched : (x : Checked) → x ≡ so_far x []
untouched x = ap₂ (λ (given : List Fault) (finished : Bool). told_of x given finished) (sym (append-nil x.given)) (or_false x.finished)

pub calls_from : (calls : List Call) (x : Checked) (t u : State) → Checks t x → AreCalls t calls u → Checks u (so_far x calls)
calls_from [] x t u k is = subst (λ (v : State). Checks v (so_far x [])) is (subst (Checks t) (untouched x) k)
calls_from (Word word (Ok done) ∷ calls) x t u k (mid, lead, rest) = calls_from calls (with_word word x) mid u (lead x k).1 rest
calls_from (Word word (Err why) ∷ calls) x t u k (mid, lead, rest) = calls_from calls x mid u (subst (λ (v : State). Checks v x) (sym lead.1) k) rest
calls_from (Run run true ∷ calls) x t u k (mid, lead, rest) =
    let words : List RxWord = map (λ (n : ℕ). Data n) run in
    let y : Checked = with_words words x in
    let inputs : List Input = all_inputs calls in
    let ih = calls_from calls y mid u (lead x k).1 rest in
    let at_given : Checks u (told_of (after inputs y) (x.given ++ all_got calls) (y.finished || are_ended calls)) =
    subst (λ (given : List Fault). Checks u (told_of (after inputs y) (given ++ all_got calls) (y.finished || are_ended calls))) (run_given words x) ih in
    let at_end : Checks u (told_of (after inputs y) (x.given ++ all_got calls) (x.finished || are_ended calls)) =
    subst (λ (b : Bool). Checks u (told_of (after inputs y) (x.given ++ all_got calls) (b || are_ended calls))) (run_finished words x) at_given in
    subst (λ (z : Checked). Checks u (told_of z (x.given ++ all_got calls) (x.finished || are_ended calls))) (sym (run_after run inputs x)) at_end
calls_from (Run run false ∷ calls) x t u k (mid, lead, rest) = calls_from calls x mid u (subst (λ (v : State). Checks v x) (sym lead) k) rest
calls_from (Flow heard (Ok done) ∷ calls) x t u k (mid, lead, rest) = calls_from calls (with_heard heard x) mid u (lead x k).1 rest
calls_from (Flow heard (Err why) ∷ calls) x t u k (mid, lead, rest) = calls_from calls x mid u (subst (λ (v : State). Checks v x) (sym lead.1) k) rest
calls_from (Finish ∷ calls) x t u k (mid, lead, rest) =
    let ih = calls_from calls (with_end x) mid u (lead x k) rest in
    let at_end = subst (λ (b : Bool). Checks u (told_of (after (all_inputs calls) (with_end x)) (x.given ++ all_got calls) b)) (or_true x.finished (are_ended calls)) ih in
    subst (Checks u) (ended (all_inputs calls) x (x.given ++ all_got calls) (x.finished || (true || are_ended calls))) at_end
calls_from (Refusal answer ∷ calls) x t u k (mid, lead, rest) = calls_from calls x mid u (subst (λ (v : State). Checks v x) (sym lead.1) k) rest
calls_from (Next (Some fault) ∷ calls) x t u k (mid, lead, rest) =
    let ih = calls_from calls (with_given fault x) mid u (lead x k).1 rest in
    let at_given = subst (λ (given : List Fault). Checks u (told_of (after (all_inputs calls) (with_given fault x)) given (x.finished || are_ended calls))) (append_assoc x.given (fault ∷ []) (all_got calls)) ih in
    subst (Checks u) (gave_back (all_inputs calls) fault x (x.given ++ fault ∷ all_got calls) (x.finished || are_ended calls)) at_given
calls_from (Next None ∷ calls) x t u k (mid, lead, rest) = calls_from calls x mid u (subst (λ (v : State). Checks v x) (sym lead.1) k) rest

pub calls_check : CallsCheck
calls_check limits channels entries calls t u fresh are = calls_from calls (nothing_checked limits channels entries) t u fresh are

pub calls_tell : CallsTellFaults
calls_tell limits channels entries calls t u fresh are =
    on_calls limits channels entries (all_inputs calls) (all_got calls) (are_ended calls) u (calls_check limits channels entries calls t u fresh are)

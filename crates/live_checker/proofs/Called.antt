-- What was given to a checker by a list of inputs.
use Rattle.std.proofs.Common.{ℕ, suc, ◌≡◌, sym, ap, ap₂, ◌∙◌, subst, List, [], ◌∷◌, ◌++◌, length, append_assoc, append-nil, arith}
use Rattle.std.proofs.lemmas.List.{length-append}
use Rattle.word_rules.specs.declared.fault.Fault.{Fault}
use Rattle.word_rules.specs.Faults.{faults, with_flow}
use Rattle.live_checker.specs.Live.{live_faults}
use Rattle.live_checker.specs.Standing.{Checked, nothing_checked, with_heard, with_word}
use Rattle.live_checker.specs.Laws.{AreSameRows, Input, GiveFlow, GiveWord, LawOnCalls, after, plan_with, rows_in, words_in}
use Rattle.live_checker.proofs.SameRows.{same_rows}

pub words_after : (inputs : List Input) (x : Checked) → (after inputs x).words ≡ x.words ++ words_in inputs
words_after [] x = sym (append-nil x.words)
words_after (GiveWord word ∷ inputs) x = words_after inputs (with_word word x) ∙ append_assoc x.words (word ∷ []) (words_in inputs)
words_after (GiveFlow heard ∷ inputs) x = words_after inputs (with_heard heard x)

pub plan_after : (inputs : List Input) (x : Checked) → (after inputs x).plan ≡ with_flow x.plan (x.plan.flow ++ rows_in (length x.words) inputs)
plan_after [] x = ap (with_flow x.plan) (sym (append-nil x.plan.flow))
plan_after (GiveWord word ∷ inputs) x =
    let n : length (x.words ++ word ∷ []) ≡ suc (length x.words) = (let l = length-append x.words (word ∷ []) in omega arith) in
    plan_after inputs (with_word word x) ∙ ap (λ (k : ℕ). with_flow x.plan (x.plan.flow ++ rows_in k inputs)) n
plan_after (GiveFlow heard ∷ inputs) x =
    plan_after inputs (with_heard heard x)
    ∙ ap (with_flow x.plan) (append_assoc x.plan.flow (record { slot = length x.words; word = heard } ∷ []) (rows_in (length x.words) inputs))

pub on_calls : LawOnCalls
on_calls limits channels entries inputs given finished t k =
    let x : Checked = nothing_checked limits channels entries in
    let told : given ++ t.due ≡ live_faults (plan_with limits channels entries (rows_in 0 inputs)) (words_in inputs) =
    k.told ∙ ap₂ live_faults (plan_after inputs x) (words_after inputs x) in
    subst (λ (rows : List Fault). AreSameRows rows (faults (plan_with limits channels entries (rows_in 0 inputs)) (words_in inputs))) (sym told)
    (same_rows (plan_with limits channels entries (rows_in 0 inputs)) (words_in inputs))

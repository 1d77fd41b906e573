-- What the calls keep of a checker's standing.
use Rattle.std.proofs.Common.{ℕ, suc, ◌+◌, ◌-◌, ◌^◌, ◌≡◌, ◌≤◌, ◌<◌, refl, sym, ap, ap₂, ◌∙◌, subst, Bool, true, false, cond, nat_lt, List, [], ◌∷◌, ◌++◌, length, reverse, drop, get_or, Option, Some, None, append_assoc, append-nil, arith, is_some, true≢false, ltb-true}
use Rattle.std.specs.Option.{option_or}
use Rattle.std.proofs.lemmas.Bool.Decides.{nat_tests}
use Rattle.std.proofs.lemmas.List.{drop_all, drop_more, length-append, length-drop, length-reverse}
use Rattle.lk_base.specs.declared.word.RxWord.{RxWord}
use Rattle.word_rules.specs.declared.checker.Checker.{Checker}
use Rattle.word_rules.specs.declared.fault.Fault.{Fault}
use Rattle.word_rules.specs.Checks.{Keeps}
use Rattle.word_rules.specs.Faults.{with_flow}
use Rattle.word_rules.specs.Flows.{NoneLater, with_row}
use Rattle.live_checker.specs.Calls.{flow_refusal, is_waiting, word_refusal}
use Rattle.live_checker.specs.Live.{live_faults, shown_at}
use Rattle.live_checker.specs.Standing.{Checked, Checks, with_end, with_given, with_heard, with_word}
use Rattle.live_checker.specs.States.{State, state}
use Rattle.live_checker.specs.declared.misuse.Misuse.{Misuse}
use Rattle.live_checker.specs.declared.misuse.Misuse.TheVariants as misuses
use Rattle.live_checker.proofs.Words.{in_order_push, live_later, live_push, none_later_more, none_later_push, reverse_push}

-- ---- what is due

dues : (t : State) (x : Checked) → Checks t x → length (live_faults x.plan x.words) ≡ length x.given + length t.due
dues t x k = sym (ap (λ (rows : List Fault). length rows) k.told) ∙ length-append x.given t.due

pub waits : (t : State) (x : Checked) → Checks t x → 0 < length t.due → is_waiting x ≡ true
waits t x k some = (let n = dues t x k in grind (arith, nat_tests))

pub waits_not : (t : State) (x : Checked) → Checks t x → length t.due ≡ 0 → is_waiting x ≡ false
waits_not t x k none = (let n = dues t x k in grind (arith, nat_tests))

not_waiting : (f w : Bool) → cond f (Some misuses.Finished) (cond w (Some misuses.Waiting) None) ≡ None → w ≡ false
not_waiting true w e = absurd (true≢false (ap (λ (o : Option Misuse). is_some o) e))
not_waiting false true e = absurd (true≢false (ap (λ (o : Option Misuse). is_some o) e))
not_waiting false false e = refl

open_few : (o : Option Misuse) (few : Bool) → option_or o (cond few None (Some misuses.TooMany)) ≡ None → (o ≡ None) × (few ≡ true)
open_few (Some why) few e = absurd (true≢false (ap (λ (o : Option Misuse). is_some o) e))
open_few None true e = (refl, refl)
open_few None false e = absurd (true≢false (ap (λ (o : Option Misuse). is_some o) e))

pub too_many : (x : Checked) → flow_refusal x ≡ None → 2 ^ 57 ≤ length x.words → Some misuses.TooMany ≡ word_refusal x
too_many x none many = (let l : nat_lt (length x.words) (2 ^ 57) ≡ false = grind (arith, nat_tests) in rw (none, l) refl)

pub not_many : (x : Checked) → flow_refusal x ≡ None → length x.words < 2 ^ 57 → None ≡ word_refusal x
not_many x none few = (let l : nat_lt (length x.words) (2 ^ 57) ≡ true = grind (arith, nat_tests) in rw (none, l) refl)

pub as_flow : (x : Checked) (why : Misuse) → Some why ≡ flow_refusal x → Some why ≡ word_refusal x
as_flow x why e = ap (λ (o : Option Misuse). option_or o (cond (nat_lt (length x.words) (2 ^ 57)) None (Some misuses.TooMany))) e

pub word_free : (x : Checked) → word_refusal x ≡ None → (flow_refusal x ≡ None) × (length x.words < 2 ^ 57)
word_free x e = (let h = open_few (flow_refusal x) (nat_lt (length x.words) (2 ^ 57)) e in (h.0, ltb-true (length x.words) (2 ^ 57) h.1))

module _ (c : Checker) (found : List Fault) (given : ℕ) (finished : Bool) (x : Checked) (k : Checks (state c found given finished) x) where
  pub refused_end : finished ≡ true → flow_refusal x ≡ Some misuses.Finished
  refused_end e = (let f : x.finished ≡ true = sym k.ended ∙ e in rw f refl)

  pub refused_waiting : finished ≡ false → given < length found → flow_refusal x ≡ Some misuses.Waiting
  refused_waiting e lt =
      let f : x.finished ≡ false = sym k.ended ∙ e in
      let n : length (drop given found) ≡ length found - given = length-drop given found in
      let d : is_waiting x ≡ true = waits (state c found given finished) x k (omega arith) in
      rw (f, d) refl

  pub not_refused : finished ≡ false → length found ≤ given → flow_refusal x ≡ None
  not_refused e le =
      let f : x.finished ≡ false = sym k.ended ∙ e in
      let n : length (drop given found) ≡ length found - given = length-drop given found in
      let d : is_waiting x ≡ false = waits_not (state c found given finished) x k (omega arith) in
      rw (f, d) refl

  pub due_now : given < length found → is_waiting x ≡ true
  due_now lt = (let n : length (drop given found) ≡ length found - given = length-drop given found in waits (state c found given finished) x k (omega arith))

  pub none_due : length found ≤ given → is_waiting x ≡ false
  none_due le = (let n : length (drop given found) ≡ length found - given = length-drop given found in waits_not (state c found given finished) x k (omega arith))

  pub all_out : flow_refusal x ≡ None → length found ≤ given
  all_out none = go (nat_lt given (length found)) refl where
    go : (b : Bool) → nat_lt given (length found) ≡ b → length found ≤ given
    go true e = absurd (true≢false (sym (due_now (ltb-true given (length found) e)) ∙ not_waiting x.finished (is_waiting x) none))
    go false e = grind (arith, nat_tests)

  pub heard_back : NoneLater x.plan.flow (length (reverse x.words))
  heard_back = subst (λ (n : ℕ). NoneLater x.plan.flow n) (sym (length-reverse x.words)) k.heard

  -- ---- what the calls keep

  pub end_kept : Checks (state c found given true) (with_end x)
  end_kept = record { keeps = k.keeps; few = k.few; heard = k.heard; in_order = k.in_order; told = k.told; ended = refl }

  pub given_kept : (fault d : Fault) → given < length found → fault ≡ get_or found given d → Checks (state c found (given + 1) finished) (with_given fault x)
  given_kept fault d lt is = record {
    keeps = k.keeps;
    few = k.few;
    heard = k.heard;
    in_order = k.in_order;
    told = append_assoc x.given (fault ∷ []) (drop (given + 1) found)
        ∙ ap (λ (f : Fault). x.given ++ f ∷ drop (given + 1) found) is
        ∙ ap (λ (rows : List Fault). x.given ++ rows) (sym (drop_more found given d lt))
        ∙ k.told;
    ended = k.ended;
  }

  pub all_given : length found ≤ given → x.given ≡ live_faults x.plan x.words
  all_given le = sym (append-nil x.given) ∙ ap (λ (rows : List Fault). x.given ++ rows) (sym (drop_all given found le)) ∙ k.told

  pub word_kept : (new : Checker) (shown : List Fault) (word : RxWord) → length found ≤ given → length x.words < 2 ^ 57 → Keeps new x.plan (word ∷ reverse x.words) → shown ≡ shown_at x.plan (reverse x.words) word
      → Checks (state new shown 0 finished) (with_word word x)
  word_kept new shown word le few keeps is =
      let n : length (x.words ++ word ∷ []) ≡ suc (length x.words) = (let l = length-append x.words (word ∷ []) in omega arith) in
      record {
        keeps = subst (λ (e : List RxWord). Keeps new x.plan e) (sym (reverse_push x.words word)) keeps;
        few = omega arith;
        heard = none_later_more x.plan.flow (length x.words) (length (x.words ++ word ∷ [])) (omega arith) k.heard;
        in_order = k.in_order;
        told = ap₂ (λ (l r : List Fault). l ++ r) (all_given le) is ∙ sym (live_push x.plan x.words word);
        ended = k.ended;
      }

  pub flow_kept : (new : Checker) (word : ℕ) → Keeps new (with_flow x.plan (with_row x.plan.flow (length (reverse x.words)) word)) (reverse x.words) → Checks (state new found given finished) (with_heard word x)
  flow_kept new word keeps = record {
    keeps = subst (λ (n : ℕ). Keeps new (with_flow x.plan (with_row x.plan.flow n word)) (reverse x.words)) (length-reverse x.words) keeps;
    few = k.few;
    heard = none_later_push x.plan.flow (length x.words) word k.heard;
    in_order = in_order_push x.plan.flow (length x.words) word k.in_order k.heard;
    told = k.told ∙ sym (live_later x.plan x.words word);
    ended = k.ended;
  }

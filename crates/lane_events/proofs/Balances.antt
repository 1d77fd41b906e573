-- The balance of the codes of a lock.
use Rattle.std.proofs.Common.{ℕ, suc, ◌≡◌, refl, sym, ap, ◌∙◌, ◌+◌, ◌*◌, ◌≤◌, ◌<◌, ◌&&◌, ◌||◌, cond, not, Bool, true, false, List, [], ◌∷◌, ◌++◌, length, map, arith, sum_by, Option, Some, None}
use Rattle.std.specs.Prelude.{ℤ, pos, ◌+ℤ◌}
use Rattle.std.specs.List.{list_any, range_with_len}
use Rattle.std.specs.Int.Count.{ones_in}
use Rattle.std.proofs.lemmas.Int.{ints}
use Rattle.std.proofs.lemmas.List.{length-append}
use Rattle.std.proofs.lemmas.List.FromFn.{map-range_with_len_more}
use Rattle.std.proofs.lemmas.List.Folds.{list_any-append}
use Rattle.std.proofs.lemmas.List.Sums.{sum_by-cons, sum_by_push}
use Rattle.lk_base.specs.Link.{Settings}
use Rattle.lane_model.specs.Coding.{disparity, excess}
use Rattle.lane_model.proofs.Disparities.{none-disparity, ones_in-le}
use Rattle.lock_model.specs.Locks.{code_at}
use Rattle.lock_model.specs.Received.{Lock}
use Rattle.lane_events.specs.declared.types.EventKind.TheVariants as kinds
use Rattle.lane_events.specs.Balance.{balance_after, is_far_off}
use Rattle.lane_events.specs.Events.{has_event, is_unbalanced}
use Rattle.lane_events.specs.Inspection.{Balances, balance_of}
use Rattle.lane_events.specs.Steps.{unbalances}
use Rattle.lane_events.proofs.Grow.{range_more}
use Rattle.lane_events.proofs.Local.{codes_same, never_same}

-- ---- one code more

pub sum-le : (codes : List ℕ) → sum_by (ones_in 67) codes ≤ 67 * length codes
sum-le [] = omega arith
sum-le (c ∷ codes) =
    let a : ones_in 67 c ≤ 67 = ones_in-le 67 c in
    let b : sum_by (ones_in 67) codes ≤ 67 * length codes = sum-le codes in
    let e = sum_by-cons (ones_in 67) c codes in omega (arith, a, b, e)

length-push : (codes : List ℕ) (c : ℕ) → length (codes ++ c ∷ []) ≡ suc (length codes)
length-push [] c = refl
length-push (d ∷ codes) c = ap suc (length-push codes c)

excess-more : (n a o : ℕ) → a ≤ 67 * n → o ≤ 67 → excess (67 * suc n) (a + o) ≡ excess (67 * n) a +ℤ excess 67 o
excess-more n a o h k = omega (arith, ints)

disparity-push : (before : List ℕ) (c : ℕ) → disparity (before ++ c ∷ []) ≡ disparity before +ℤ excess 67 (ones_in 67 c)
unfolding disparity
disparity-push before c =
    rw (length-push before c, sum_by_push (ones_in 67) before c) (excess-more (length before) (sum_by (ones_in 67) before) (ones_in 67 c) (sum-le before) (ones_in-le 67 c))

codes_of : List Bool → ℕ → ℕ → List ℕ
codes_of bits at n = map (λ k. code_at bits (at + 67 * k)) (range_with_len 0 n)

codes_more : (bits : List Bool) (at n : ℕ) → disparity (codes_of bits at (n + 1)) ≡ disparity (codes_of bits at n) +ℤ excess 67 (ones_in 67 (code_at bits (at + 67 * n)))
unfolding codes_of
codes_more bits at n =
    ap disparity (map-range_with_len_more (λ k. code_at bits (at + 67 * k)) 0 n n (omega arith))
    ∙ disparity-push (map (λ k. code_at bits (at + 67 * k)) (range_with_len 0 n)) (code_at bits (at + 67 * n))

-- before the first code
pub none_balance : (bits : List Bool) (at : ℕ) → balance_of bits at 0 ≡ Some (pos 0)
none_balance bits at = ap Some none-disparity

any_more : (f : ℕ → Bool) (n : ℕ) → list_any f (range_with_len 0 (n + 1)) ≡ (list_any f (range_with_len 0 n) || f n)
any_more f n =
    let e : n + 1 ≡ suc n = omega arith in
    let z : 0 + n ≡ n = omega arith in
    ap (λ k. list_any f (range_with_len 0 k)) e ∙ ap (list_any f) (range_more 0 n ∙ ap (λ k. range_with_len 0 n ++ k ∷ []) z)
    ∙ list_any-append f (range_with_len 0 n) (n ∷ []) ∙ ap (λ b. list_any f (range_with_len 0 n) || b) (one (f n))
  where
    one : (b : Bool) → (b || false) ≡ b
    one true = refl
    one false = refl

both : (ever far : Bool) (n e : ℤ) → far ≡ is_far_off (n +ℤ e) → balance_after (cond ever None (Some n)) e ≡ cond (ever || far) None (Some (n +ℤ e))
both true far n e h = refl
both false far n e h = rw h refl

-- after the code of word r
pub balance_more : (bits : List Bool) (at r : ℕ) → balance_after (balance_of bits at r) (excess 67 (ones_in 67 (code_at bits (at + 67 * r)))) ≡ balance_of bits at (r + 1)
unfolding is_unbalanced codes_of
balance_more bits at r =
    let n = disparity (codes_of bits at r) in
    let e = excess 67 (ones_in 67 (code_at bits (at + 67 * r))) in
    both (list_any (is_unbalanced bits at) (range_with_len 0 r)) (is_unbalanced bits at r) n e (ap is_far_off (codes_more bits at r))
    ∙ ap (λ b. cond b None (Some (n +ℤ e))) (sym (any_more (is_unbalanced bits at) r))
    ∙ ap (λ d. cond (list_any (is_unbalanced bits at) (range_with_len 0 (r + 1))) None (Some d)) (sym (codes_more bits at r))

turns : (ever far : Bool) (m n : ℤ) → unbalances (cond ever None (Some m)) (cond (ever || far) None (Some n)) ≡ (far && not ever)
turns true true m n = refl
turns true false m n = refl
turns false true m n = refl
turns false false m n = refl

-- it unbalances where the event says so
pub unbalances_is : (s : Settings) (bits : List Bool) (at r : ℕ) → unbalances (balance_of bits at r) (balance_of bits at (r + 1)) ≡ has_event s bits at r kinds.Balance
unbalances_is s bits at r =
    let before = disparity (map (λ k. code_at bits (at + 67 * k)) (range_with_len 0 r)) in
    let behind = disparity (map (λ k. code_at bits (at + 67 * k)) (range_with_len 0 (r + 1))) in
    ap (λ b. unbalances (cond (list_any (is_unbalanced bits at) (range_with_len 0 r)) None (Some before)) (cond b None (Some behind))) (any_more (is_unbalanced bits at) r)
    ∙ turns (list_any (is_unbalanced bits at) (range_with_len 0 r)) (is_unbalanced bits at r) before behind

-- more bits change no balance
pub balance_stays : (s : Settings) (bits more : List Bool) (at n : ℕ) → 0 < s.metaframe → at + 67 * n ≤ length bits → balance_of (bits ++ more) at n ≡ balance_of bits at n
balance_stays s bits more at n some h =
    rw (never_same s some bits more at n h, codes_same s some bits more at n h) refl

pub balances_stay : (s : Settings) (balance : Option ℤ) (bits more : List Bool) (lock_now : Option Lock) → 0 < s.metaframe → Balances balance bits lock_now → Balances balance (bits ++ more) lock_now
balances_stay s balance bits more None some k = tt
balances_stay s balance bits more (Some lock) some k =
    let e = length-append bits more in
    let there = k.1 in
    (k.0 ∙ sym (balance_stays s bits more lock.at lock.count some there), omega (arith, e, there))

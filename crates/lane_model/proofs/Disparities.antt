-- The running disparity.
use Rattle.std.proofs.Common.{ℕ, zero, suc, ◌≡◌, refl, sym, ap, ◌∙◌, ◌+◌, ◌-◌, ◌*◌, ◌/◌, ◌%◌, ◌^◌, ◌<◌, ◌≤◌, Bool, true, false, cond, List, [], ◌∷◌, ◌++◌, length, arith, sum_by}
use Rattle.std.specs.Prelude.{ℤ, pos, negsuc, ◌+ℤ◌, ◌-ℤ◌, ◌≤ℤ◌, int_lt, int_le, ◌&&◌, ◌||◌}
use Rattle.std.proofs.Math.Nat.{pow-succ'}
use Rattle.std.proofs.lemmas.Int.{ints}
use Rattle.std.proofs.lemmas.List.Sums.{sum_by-cons, sum_by_push}
use Rattle.std.specs.Int.Count.{ones, ones_in, ones_step, ones_cat}
use Rattle.lk_base.specs.declared.word.Word.{Word}
use Rattle.lk_base.specs.declared.word.Word.TheVariants.{Data, Control}
use Rattle.lk_base.specs.Words.{payload}
use Rattle.lane_model.specs.Coding.{code_of, inverse_of, excess, weight, disparity, is_inverted, next_disparity}
use Rattle.lane_model.specs.CodingLaw.{DisparityRuns}
use Rattle.lane_model.proofs.Codes.{code_of-below}

ones_zero : ones 0 ≡ 0
unfolding ones ones_in
ones_zero = refl

pub ones_in-is : (k n : ℕ) → n < 2 ^ k → ones_in k n ≡ ones n
unfolding ones_in
ones_in-is zero n h = let e : 0 ≡ n = omega arith in sym ones_zero ∙ ap ones e
ones_in-is (suc k) n h =
    let p : 2 ^ suc k ≡ 2 * 2 ^ k = pow-succ' 2 k in
    let rest : ones_in k (n / 2) ≡ ones (n / 2) = ones_in-is k (n / 2) (omega arith) in
    let step : ones n ≡ n % 2 + ones (n / 2) = ones_step n in
    omega arith

ones-inverse_of : (k x : ℕ) → x < 2 ^ k → ones (2 ^ k - 1 - x) + ones x ≡ k
ones-inverse_of zero x h = let e : 0 ≡ x = omega arith in let f : 2 ^ 0 - 1 - x ≡ 0 = omega arith in
    rw (f, ← e, ones_zero) refl
ones-inverse_of (suc k) x h =
    let p : 2 ^ suc k ≡ 2 * 2 ^ k = pow-succ' 2 k in
    let rest : ones (2 ^ k - 1 - x / 2) + ones (x / 2) ≡ k = ones-inverse_of k (x / 2) (omega arith) in
    let a : ones (2 ^ suc k - 1 - x) ≡ (2 ^ suc k - 1 - x) % 2 + ones ((2 ^ suc k - 1 - x) / 2) = ones_step (2 ^ suc k - 1 - x) in
    let b : ones x ≡ x % 2 + ones (x / 2) = ones_step x in
    let c : (2 ^ suc k - 1 - x) / 2 ≡ 2 ^ k - 1 - x / 2 = omega arith in
    let d : (2 ^ suc k - 1 - x) % 2 + x % 2 ≡ 1 = omega arith in
    let e : ones ((2 ^ suc k - 1 - x) / 2) ≡ ones (2 ^ k - 1 - x / 2) = ap ones c in
    omega arith

small : (ones 1 ≡ 1) × (ones 2 ≡ 1) × (ones 5 ≡ 2) × (ones 6 ≡ 2)
unfolding ones ones_in
small = (refl, refl, refl, refl)

ones-plain : (word : Word) → payload word < 2 ^ 64 → ones (code_of false word) ≡ 1 + ones (payload word)
unfolding code_of
ones-plain (Data x) h = let e : 0 * 2 ^ 66 + 1 * 2 ^ 64 + x ≡ 1 * 2 ^ 64 + x = omega arith in ap ones e ∙ ones_cat 64 1 x h ∙ ap (λ n. n + ones x) small.0
ones-plain (Control x) h = let e : 0 * 2 ^ 66 + 2 * 2 ^ 64 + x ≡ 2 * 2 ^ 64 + x = omega arith in ap ones e ∙ ones_cat 64 2 x h ∙ ap (λ n. n + ones x) small.1

ones-inverted : (word : Word) → payload word < 2 ^ 64 → ones (code_of true word) + ones (payload word) ≡ 66
unfolding code_of
ones-inverted (Data x) h =
    let e : 1 * 2 ^ 66 + 1 * 2 ^ 64 + inverse_of x ≡ 5 * 2 ^ 64 + inverse_of x = omega arith in
    let f : ones (1 * 2 ^ 66 + 1 * 2 ^ 64 + inverse_of x) ≡ 2 + ones (inverse_of x) = ap ones e ∙ ones_cat 64 5 (inverse_of x) (omega arith) ∙ ap (λ n. n + ones (inverse_of x)) small.2 in
    let g : ones (inverse_of x) + ones x ≡ 64 = ones-inverse_of 64 x h in
    omega (arith, f, g)
ones-inverted (Control x) h =
    let e : 1 * 2 ^ 66 + 2 * 2 ^ 64 + inverse_of x ≡ 6 * 2 ^ 64 + inverse_of x = omega arith in
    let f : ones (1 * 2 ^ 66 + 2 * 2 ^ 64 + inverse_of x) ≡ 2 + ones (inverse_of x) = ap ones e ∙ ones_cat 64 6 (inverse_of x) (omega arith) ∙ ap (λ n. n + ones (inverse_of x)) small.3 in
    let g : ones (inverse_of x) + ones x ≡ 64 = ones-inverse_of 64 x h in
    omega (arith, f, g)

pub ones_in-le : (k n : ℕ) → ones_in k n ≤ k
unfolding ones_in
ones_in-le zero n = omega arith
ones_in-le (suc k) n = let e : ones_in k (n / 2) ≤ k = ones_in-le k (n / 2) in omega arith

sum-le : (codes : List ℕ) → sum_by (ones_in 67) codes ≤ 67 * length codes
sum-le [] = omega arith
sum-le (c ∷ codes) =
    let a : ones_in 67 c ≤ 67 = ones_in-le 67 c in
    let b : sum_by (ones_in 67) codes ≤ 67 * length codes = sum-le codes in
    let e = sum_by-cons (ones_in 67) c codes in omega (arith, a, b, e)

length-push : (codes : List ℕ) (c : ℕ) → length (codes ++ c ∷ []) ≡ suc (length codes)
length-push [] c = refl
length-push (d ∷ codes) c = ap suc (length-push codes c)

excess-more : (n a o : ℕ) → a ≤ 67 * n → o ≤ 67 → excess (67 * suc n) (a + o) ≡ excess (67 * n) a +ℤ excess 67 o
excess-more n a o h k = omega (arith, ints)

excess-plain : (o p : ℕ) → o ≡ 1 + p → p ≤ 64 → excess 67 o ≡ excess 65 p
excess-plain o p e h = omega (arith, ints)

excess-inverted : (r : ℤ) (o p : ℕ) → o + p ≡ 66 → p ≤ 64 → r +ℤ excess 67 o ≡ r -ℤ excess 65 p
excess-inverted r o p e h = omega (arith, ints)

disparity-push : (before : List ℕ) (c : ℕ) → disparity (before ++ c ∷ []) ≡ disparity before +ℤ excess 67 (ones_in 67 c)
unfolding disparity
disparity-push before c =
    rw (length-push before c, sum_by_push (ones_in 67) before c) (excess-more (length before) (sum_by (ones_in 67) before) (ones_in 67 c) (sum-le before) (ones_in-le 67 c))

coded : (r : ℤ) (inverted : Bool) (word : Word) → payload word < 2 ^ 64 →
    r +ℤ excess 67 (ones_in 67 (code_of inverted word)) ≡ cond inverted (r -ℤ weight (payload word)) (r +ℤ weight (payload word))
coded r true word h =
    let e : ones_in 67 (code_of true word) ≡ ones (code_of true word) = ones_in-is 67 (code_of true word) (code_of-below true word h) in
    let f : ones_in 64 (payload word) ≡ ones (payload word) = ones_in-is 64 (payload word) h in
    let g : ones (code_of true word) + ones (payload word) ≡ 66 = ones-inverted word h in
    excess-inverted r (ones_in 67 (code_of true word)) (ones_in 64 (payload word)) (omega arith) (ones_in-le 64 (payload word))
coded r false word h =
    let e : ones_in 67 (code_of false word) ≡ ones (code_of false word) = ones_in-is 67 (code_of false word) (code_of-below false word h) in
    let f : ones_in 64 (payload word) ≡ ones (payload word) = ones_in-is 64 (payload word) h in
    let g : ones (code_of false word) ≡ 1 + ones (payload word) = ones-plain word h in
    ap (λ z. r +ℤ z) (excess-plain (ones_in 67 (code_of false word)) (ones_in 64 (payload word)) (omega arith) (ones_in-le 64 (payload word)))

weight-low : (payload : ℕ) → (negsuc 64 ≤ℤ weight payload) × (weight payload ≤ℤ pos 63)
weight-low payload = let e : ones_in 64 payload ≤ 64 = ones_in-le 64 payload in (omega (arith, ints), omega (arith, ints))

stays : (r w : ℤ) (b : Bool) → b ≡ ((int_le (pos 0) r && int_lt (pos 0) w) || (int_lt r (pos 0) && int_lt w (pos 0))) →
    negsuc 64 ≤ℤ w → w ≤ℤ pos 63 → negsuc 64 ≤ℤ r → r ≤ℤ pos 64 → (negsuc 64 ≤ℤ cond b (r -ℤ w) (r +ℤ w)) × (cond b (r -ℤ w) (r +ℤ w) ≤ℤ pos 64)
stays r w b e a c f g = (grind (arith, ints), grind (arith, ints))

pub bounds : (r : ℤ) (payload : ℕ) → negsuc 64 ≤ℤ r → r ≤ℤ pos 64 → (negsuc 64 ≤ℤ next_disparity r payload) × (next_disparity r payload ≤ℤ pos 64)
unfolding is_inverted
bounds r payload f g = let w = weight-low payload in stays r (weight payload) (is_inverted r payload) refl w.0 w.1 f g

pub none-disparity : disparity [] ≡ pos 0
unfolding disparity
none-disparity = refl

pub disparity_runs : DisparityRuns
disparity_runs = record {
  start = none-disparity;
  step = λ before word h. disparity-push before (code_of (is_inverted (disparity before) (payload word)) word)
      ∙ coded (disparity before) (is_inverted (disparity before) (payload word)) word h;
  above = λ r payload f g. (bounds r payload f g).0;
  below = λ r payload f g. (bounds r payload f g).1;
}

-- What the rules read of the words before a place, where these end in a control word with its data.
use Rattle.std.proofs.Common.{ℕ, suc, ◌≡◌, ◌+◌, true, false, cond, Bool, List, [], ◌∷◌, length, map, reverse, filter_map, Some, None, Option, refl, ap, ◌∙◌, arith}
use Rattle.std.specs.Option.{option_map}
use Rattle.std.specs.List.{list_any}
use Rattle.lk_base.specs.Words.{is_bad}
use Rattle.lk_base.specs.declared.word.RxWord.{RxWord}
use Rattle.lk_base.specs.declared.word.RxWord.TheVariants as received
use Rattle.receive_model.specs.Stretches.{data_number}
use Rattle.word_rules.specs.Places.{control_number, is_burst_word, known, since_control, data_before, word_before_data, burst_before, follows_bad, words_since_burst}
use Rattle.word_rules.specs.Rules.{covered}
use Rattle.word_rules.specs.Bursts.{bursts_from}
use Rattle.rule_laws.proofs.Places.{behind}

pub data_of : (xs : List ℕ) (y : ℕ) (e : List RxWord) → data_before (behind xs y e) ≡ xs
data_of [] y e = refl
data_of (x ∷ xs) y e = ap (λ zs. x ∷ zs) (data_of xs y e)

word_of : (xs : List ℕ) (y : ℕ) (e : List RxWord) → word_before_data (behind xs y e) ≡ Some (received.Control y)
word_of [] y e = refl
word_of (x ∷ xs) y e = word_of xs y e

pub burst_of : (xs : List ℕ) (y : ℕ) (e : List RxWord) → burst_before (behind xs y e) ≡ cond (is_burst_word y) (Some y) None
burst_of xs y e = rw (word_of xs y e) refl

pub no_bad_of : (xs : List ℕ) (y : ℕ) (e : List RxWord) → follows_bad (behind xs y e) ≡ false
no_bad_of xs y e = rw (word_of xs y e) refl

since_of : (xs : List ℕ) (y : ℕ) (e : List RxWord) → since_control (behind xs y e) ≡ map received.Data xs
since_of [] y e = refl
since_of (x ∷ xs) y e = ap (λ (zs : List RxWord). received.Data x ∷ zs) (since_of xs y e)

numbers_of : (xs : List ℕ) → filter_map data_number (map received.Data xs) ≡ xs
numbers_of [] = refl
numbers_of (x ∷ xs) = ap (λ zs. x ∷ zs) (numbers_of xs)

pub covered_of : (xs : List ℕ) (y : ℕ) (e : List RxWord) → covered (behind xs y e) ≡ reverse xs
covered_of xs y e = rw (since_of xs y e) (ap reverse (numbers_of xs))

pub length_of : (xs : List ℕ) (y : ℕ) (e : List RxWord) → length (behind xs y e) ≡ length xs + suc (length e)
length_of [] y e = omega arith
length_of (x ∷ xs) y e = let n = length_of xs y e in omega arith

pub any_bad_of : (xs : List ℕ) (y : ℕ) (e : List RxWord) → list_any is_bad (behind xs y e) ≡ list_any is_bad e
any_bad_of [] y e = refl
any_bad_of (x ∷ xs) y e = any_bad_of xs y e

pub known_of : (xs : List ℕ) (y : ℕ) (e : List RxWord) → known (behind xs y e) ≡ behind xs y (known e)
known_of [] y e = refl
known_of (x ∷ xs) y e = ap (λ (zs : List RxWord). received.Data x ∷ zs) (known_of xs y e)

pub controls_of : (xs : List ℕ) (y : ℕ) (e : List RxWord) → filter_map control_number (behind xs y e) ≡ y ∷ filter_map control_number e
controls_of [] y e = refl
controls_of (x ∷ xs) y e = controls_of xs y e

pub bursts_of : (xs : List ℕ) (x n y : ℕ) (e : List RxWord) → bursts_from x n (behind xs y e) ≡ cond (is_burst_word y) (record { word = y; size = n + length xs; closer = x } ∷ bursts_from y 0 e) (bursts_from y 0 e)
bursts_of [] x n y e = let z : n + 0 ≡ n = omega arith in rw z refl
bursts_of (d ∷ xs) x n y e =
    let z : suc n + length xs ≡ n + suc (length xs) = omega arith in
    bursts_of xs x (suc n) y e ∙ ap (λ (k : ℕ). cond (is_burst_word y) (record { word = y; size = k; closer = x } ∷ bursts_from y 0 e) (bursts_from y 0 e)) z

-- the burst word from which the words since one are counted: y, or one before it
pub data Since (y : ℕ) (e : List RxWord) (k : ℕ) : Type 0 where
  Here : is_burst_word y ≡ true → k ≡ 0 → Since y e k
  Before : (j : ℕ) → k ≡ suc j → words_since_burst e ≡ Some j → Since y e k

suc_some : (o : Option ℕ) (k : ℕ) → option_map suc o ≡ Some k → (j : ℕ) × (k ≡ suc j) × (o ≡ Some j)
suc_some None k h = cc
suc_some (Some j) k h = (j, cc, refl)

since_here : (b : Bool) (y : ℕ) (e : List RxWord) (k : ℕ) → is_burst_word y ≡ b → cond b (Some 0) (option_map suc (words_since_burst e)) ≡ Some k → Since y e k
since_here true y e k is h = Here is (cc)
since_here false y e k is h = let r = suc_some (words_since_burst e) k h in Before r.0 r.1 r.2

pub since_burst_of : (xs : List ℕ) (y : ℕ) (e : List RxWord) (k : ℕ) → words_since_burst (behind xs y e) ≡ Some k → (j : ℕ) × (k ≡ length xs + j) × Since y e j
since_burst_of [] y e k h = (k, omega arith, since_here (is_burst_word y) y e k refl h)
since_burst_of (x ∷ xs) y e k h =
    let r = suc_some (words_since_burst (behind xs y e)) k h in
    let s = since_burst_of xs y e r.0 r.2 in
    (s.0, (let a : k ≡ suc r.0 = r.1 in let b : r.0 ≡ length xs + s.0 = s.1 in omega arith), s.2)

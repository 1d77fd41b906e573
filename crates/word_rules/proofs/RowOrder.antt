-- The rows of one word among those of all words, and the order of rows.
use Rattle.std.proofs.Common.{ℕ, zero, suc, ◌+◌, ◌≡◌, ◌≤◌, ◌<◌, ◌==◌, refl, sym, ap, ap₂, ◌∙◌, subst, Bool, true, false, List, [], ◌∷◌, ◌++◌, length, filter, reverse, get_or, Option, None, append_assoc, append-nil, arith}
use Rattle.std.proofs.lemmas.Bool.Decides.{nat_tests}
use Rattle.std.proofs.lemmas.List.{reverse-append}
use Rattle.std.proofs.lemmas.List.Elements.{filter-append}
use Rattle.lk_base.specs.declared.word.RxWord.{RxWord}
use Rattle.lk_base.specs.declared.word.RxWord.TheVariants.{Data, Control, Bad}
use Rattle.receive_model.specs.Lists.{first_of}
use Rattle.word_rules.specs.declared.fault.Fault.{Fault}
use Rattle.word_rules.specs.declared.rule.WordRule.{WordRule}
use Rattle.word_rules.specs.declared.rule.WordRule.TheVariants as rules
use Rattle.word_rules.specs.Faults.{Plan, row, data_rows, word_rows, burst_rows, packet_rows, field_rows, faults, faults_at, faults_from}
use Rattle.word_rules.specs.Order.{no_fault, InOrderOfWord}

-- each row is of word n
AreAt : ℕ → List Fault → Type 0
AreAt n [] = Unit {0}
AreAt n (f ∷ rows) = (f.word ≡ n) × AreAt n rows

-- each row is of word n or a later one
AreFrom : ℕ → List Fault → Type 0
AreFrom n [] = Unit {0}
AreFrom n (f ∷ rows) = (n ≤ f.word) × AreFrom n rows

-- no row is of an earlier word than one before it
Rise : List Fault → Type 0
Rise [] = Unit {0}
Rise (f ∷ rows) = AreFrom f.word rows × Rise rows

both_at : (n : ℕ) (xs ys : List Fault) → AreAt n xs → AreAt n ys → AreAt n (xs ++ ys)
unfolding AreAt
both_at n [] ys h k = k
both_at n (f ∷ xs) ys h k = (h.0, both_at n xs ys h.1 k)

row_at : (n : ℕ) (rule : WordRule) (channel : Option ℕ) (broken : Bool) → AreAt n (row n rule channel broken)
unfolding AreAt
row_at n rule channel true = (refl, tt)
row_at n rule channel false = tt

data_at : (p : Plan) (e : List RxWord) → AreAt (length e) (data_rows p.limits e)
data_at p e = search (both_at, row_at)

word_at : (p : Plan) (e : List RxWord) (x : ℕ) (next : Option RxWord) → AreAt (length e) (word_rows p.limits e x next)
word_at p e x next = search (both_at, row_at)

burst_at : (p : Plan) (e : List RxWord) (x : ℕ) → AreAt (length e) (burst_rows p.limits e x)
burst_at p e x = search (both_at, row_at)

packet_at : (p : Plan) (e : List RxWord) (x : ℕ) → AreAt (length e) (packet_rows p.limits p.channels e x)
packet_at p e x = search (both_at, row_at)

field_at : (p : Plan) (e : List RxWord) (x : ℕ) → AreAt (length e) (field_rows p e x)
field_at p e x = search (both_at, row_at)

all_at : (p : Plan) (e : List RxWord) (word : RxWord) (next : Option RxWord) → AreAt (length e) (faults_at p e word next)
all_at p e (Data x) next = data_at p e
all_at p e (Control x) next =
    both_at (length e) (word_rows p.limits e x next) (burst_rows p.limits e x ++ (packet_rows p.limits p.channels e x ++ field_rows p e x)) (word_at p e x next)
    (both_at (length e) (burst_rows p.limits e x) (packet_rows p.limits p.channels e x ++ field_rows p e x) (burst_at p e x)
    (both_at (length e) (packet_rows p.limits p.channels e x) (field_rows p e x) (packet_at p e x) (field_at p e x)))
all_at p e Bad next = row_at (length e) rules.Bad None true

from_at : (n m : ℕ) (xs : List Fault) → m ≤ n → AreAt n xs → AreFrom m xs
unfolding AreAt AreFrom
from_at n m [] h k = tt
from_at n m (f ∷ xs) h k = ((let e = k.0 in omega arith), from_at n m xs h k.1)

both_from : (n : ℕ) (xs ys : List Fault) → AreFrom n xs → AreFrom n ys → AreFrom n (xs ++ ys)
unfolding AreFrom
both_from n [] ys h k = k
both_from n (f ∷ xs) ys h k = (h.0, both_from n xs ys h.1 k)

less_from : (n m : ℕ) (xs : List Fault) → m ≤ n → AreFrom n xs → AreFrom m xs
unfolding AreFrom
less_from n m [] h k = tt
less_from n m (f ∷ xs) h k = ((let e = k.0 in omega arith), less_from n m xs h k.1)

all_from : (p : Plan) (e words : List RxWord) → AreFrom (length e) (faults_from p e words)
unfolding AreFrom
all_from p e [] = tt
all_from p e (word ∷ words) =
    both_from (length e) (faults_at p e word (first_of words)) (faults_from p (word ∷ e) words)
    (from_at (length e) (length e) _ (omega arith) (all_at p e word (first_of words)))
    (less_from (suc (length e)) (length e) _ (omega arith) (all_from p (word ∷ e) words))

-- ---- the rows of one word

of_word : ℕ → Fault → Bool
of_word n f = f.word == n

keep_same : (n : ℕ) (xs : List Fault) → AreAt n xs → filter (of_word n) xs ≡ xs
unfolding AreAt of_word
keep_same n [] h = refl
keep_same n (f ∷ xs) h =
    let same : (f.word == n) ≡ true = (let e = h.0 in grind (arith, nat_tests)) in
    rw same (ap (λ (l : List Fault). f ∷ l) (keep_same n xs h.1))

drop_other : (n m : ℕ) (xs : List Fault) → m < n → AreAt m xs → filter (of_word n) xs ≡ []
unfolding AreAt of_word
drop_other n m [] lt h = refl
drop_other n m (f ∷ xs) lt h =
    let other : (f.word == n) ≡ false = (let e = h.0 in grind (arith, nat_tests)) in
    rw other (drop_other n m xs lt h.1)

drop_later : (n m : ℕ) (xs : List Fault) → n < m → AreFrom m xs → filter (of_word n) xs ≡ []
unfolding AreFrom of_word
drop_later n m [] lt h = refl
drop_later n m (f ∷ xs) lt h =
    let other : (f.word == n) ≡ false = (let e = h.0 in grind (arith, nat_tests)) in
    rw other (drop_later n m xs lt h.1)

rows_after : (p : Plan) (n : ℕ) (e before : List RxWord) (word : RxWord) (after : List RxWord) → n ≡ length before + length e →
    filter (of_word n) (faults_from p e (before ++ word ∷ after)) ≡ faults_at p (reverse before ++ e) word (first_of after)
rows_after p n e [] word after is =
    let same : n ≡ length e = omega arith in
    filter-append (of_word n) (faults_at p e word (first_of after)) (faults_from p (word ∷ e) after)
    ∙ ap₂ (λ (l r : List Fault). l ++ r)
    (keep_same n _ (subst (λ (k : ℕ). AreAt k (faults_at p e word (first_of after))) (sym same) (all_at p e word (first_of after))))
    (drop_later n (suc (length e)) _ (omega arith) (all_from p (word ∷ e) after))
    ∙ append-nil (faults_at p e word (first_of after))
rows_after p n e (b ∷ before) word after is =
    let next = first_of (before ++ word ∷ after) in
    filter-append (of_word n) (faults_at p e b next) (faults_from p (b ∷ e) (before ++ word ∷ after))
    ∙ ap₂ (λ (l r : List Fault). l ++ r)
    (drop_other n (length e) _ (omega arith) (all_at p e b next))
    (rows_after p n (b ∷ e) before word after (omega arith))
    ∙ ap (λ (l : List RxWord). faults_at p l word (first_of after))
    (sym (ap (λ (l : List RxWord). l ++ e) (reverse-append (b ∷ []) before) ∙ append_assoc (reverse before) (b ∷ []) e))

pub rows_of : (p : Plan) (before after : List RxWord) (word : RxWord) →
    filter (λ (f : Fault). f.word == length before) (faults p (before ++ word ∷ after)) ≡ faults_at p (reverse before) word (first_of after)
unfolding of_word
rows_of p before after word =
    let is : length before ≡ length before + 0 = omega arith in
    rows_after p (length before) [] before word after is
    ∙ ap (λ (l : List RxWord). faults_at p l word (first_of after)) (append-nil (reverse before))

-- ---- the order of rows

at_rise : (n : ℕ) (xs : List Fault) → AreAt n xs → Rise xs
unfolding AreAt Rise
at_rise n [] h = tt
at_rise n (f ∷ xs) h = (from_at n f.word xs (let e = h.0 in omega arith) h.1, at_rise n xs h.1)

both_rise : (n : ℕ) (xs ys : List Fault) → AreAt n xs → AreFrom n ys → Rise ys → Rise (xs ++ ys)
unfolding AreAt Rise
both_rise n [] ys h k r = r
both_rise n (f ∷ xs) ys h k r =
    let le : f.word ≤ n = (let e = h.0 in omega arith) in
    (both_from f.word xs ys (from_at n f.word xs le h.1) (less_from n f.word ys le k), both_rise n xs ys h.1 k r)

all_rise : (p : Plan) (e words : List RxWord) → Rise (faults_from p e words)
unfolding Rise
all_rise p e [] = tt
all_rise p e (word ∷ words) =
    both_rise (length e) (faults_at p e word (first_of words)) (faults_from p (word ∷ e) words)
    (all_at p e word (first_of words))
    (less_from (suc (length e)) (length e) _ (omega arith) (all_from p (word ∷ e) words))
    (all_rise p (word ∷ e) words)

from_place : (n : ℕ) (xs : List Fault) → AreFrom n xs → (j : ℕ) → j < length xs → n ≤ (get_or xs j no_fault).word
unfolding AreFrom
from_place n [] h j lt = omega arith
from_place n (f ∷ xs) h zero lt = h.0
from_place n (f ∷ xs) h (suc j) lt = from_place n xs h.1 j (omega arith)

in_order : (xs : List Fault) → Rise xs → InOrderOfWord xs
unfolding Rise
in_order [] h i j le lt = omega arith
in_order (f ∷ xs) h zero zero le lt = omega arith
in_order (f ∷ xs) h zero (suc j) le lt = from_place f.word xs h.0 j (omega arith)
in_order (f ∷ xs) h (suc i) zero le lt = omega arith
in_order (f ∷ xs) h (suc i) (suc j) le lt = in_order xs h.1 i j (omega arith) (omega arith)

pub rows_in_order : (p : Plan) (words : List RxWord) → InOrderOfWord (faults p words)
rows_in_order p words = in_order (faults p words) (all_rise p [] words)

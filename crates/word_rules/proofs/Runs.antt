-- A run of Data words.
use Rattle.std.proofs.Common.{ℕ, zero, suc, ◌+◌, ◌-◌, ◌/◌, ◌^◌, ◌==◌, ◌≡◌, ◌≤◌, ◌<◌, refl, sym, ap, ap₂, ◌∙◌, subst, Bool, true, false, ◌&&◌, ◌||◌, is_some, nat_le, nat_lt, List, [], ◌∷◌, ◌++◌, length, map, take, get_or, Option, Some, None, append_assoc, append-nil, arith}
use Rattle.std.specs.Option.{option_map}
use Rattle.std.specs.List.{list_any, flat_map}
use Rattle.std.proofs.lemmas.List.{take_more}
use Rattle.std.proofs.lemmas.Bool.Decides.{nat_tests}
use Rattle.lk_base.specs.declared.word.RxWord.{RxWord}
use Rattle.lk_base.specs.declared.word.RxWord.TheVariants.{Data, Control, Bad}
use Rattle.lk_base.specs.Words.{is_bad}
use Rattle.lk_base.specs.Checksum.{bits_of, bits_of_words, register_after}
use Rattle.lk_crc.proofs.Registers.{register_after-append}
use Rattle.word_rules.specs.declared.fault.Fault.{Fault}
use Rattle.word_rules.specs.declared.before.Before.{Before}
use Rattle.word_rules.specs.declared.limits.WordLimits.{WordLimits}
use Rattle.word_rules.specs.Places.{known, data_before, word_before_data, burst_before, follows_bad, words_since_burst}
use Rattle.word_rules.specs.Rules.{accepted_before, breaks_data, breaks_max, covered}
use Rattle.word_rules.specs.ByFields.{data_by}
use Rattle.word_rules.specs.Channels.{closed}
use Rattle.word_rules.specs.Faults.{Plan, data_rows, faults_from}
use Rattle.word_rules.specs.Runs.{run_after, run_by, last_or}
use Rattle.word_rules.specs.Stands.{IsBefore}
use Rattle.word_rules.proofs.Befores.{register_more}
use Rattle.word_rules.proofs.Lifted.{data_is}

abbrev words : List ℕ → List RxWord
words xs = map (λ (x : ℕ). Data x) xs

pub length_run : (e : List RxWord) (xs : List ℕ) → length (run_after e xs) ≡ length e + length xs
length_run e [] = omega arith
length_run e (x ∷ xs) = (let h = length_run (Data x ∷ e) xs in omega arith)

pub size_run : (e : List RxWord) (xs : List ℕ) → length (data_before (run_after e xs)) ≡ length (data_before e) + length xs
size_run e [] = omega arith
size_run e (x ∷ xs) = (let h = size_run (Data x ∷ e) xs in omega arith)

pub register_run : (r : ℕ) (e : List RxWord) (xs : List ℕ) → r ≡ register_after 24 0x328B63 (2 ^ 24 - 1) (bits_of_words (covered e)) →
    register_after 24 0x328B63 r (bits_of_words xs) ≡ register_after 24 0x328B63 (2 ^ 24 - 1) (bits_of_words (covered (run_after e xs)))
unfolding register_after
register_run r e [] h = h
register_run r e (x ∷ xs) h =
    register_after-append 24 0x328B63 r (bits_of 64 x) (bits_of_words xs)
    ∙ register_run (register_after 24 0x328B63 r (bits_of 64 x)) (Data x ∷ e) xs (register_more r x e h)

pub burst_run : (e : List RxWord) (xs : List ℕ) → burst_before (run_after e xs) ≡ burst_before e
burst_run e [] = refl
burst_run e (x ∷ xs) = burst_run (Data x ∷ e) xs

pub bad_run : (e : List RxWord) (xs : List ℕ) → follows_bad (run_after e xs) ≡ follows_bad e
bad_run e [] = refl
bad_run e (x ∷ xs) = bad_run (Data x ∷ e) xs

pub last_run : (d : ℕ) (e : List RxWord) (xs : List ℕ) → d ≡ get_or (data_before e) 0 0 → last_or d xs ≡ get_or (data_before (run_after e xs)) 0 0
last_run d e [] h = h
last_run d e (x ∷ xs) h = last_run x (Data x ∷ e) xs refl

none_more : (o : Option ℕ) → option_map (λ n. n + 0) o ≡ o
none_more None = refl
none_more (Some n) = (let h : n + 0 ≡ n = omega arith in ap (λ (k : ℕ). Some k) h)

one_and : (m : ℕ) (o : Option ℕ) → option_map (λ n. n + suc m) o ≡ option_map (λ n. n + m) (option_map suc o)
one_and m None = refl
one_and m (Some n) = (let h : n + suc m ≡ suc n + m = omega arith in ap (λ (k : ℕ). Some k) h)

pub since_run : (e : List RxWord) (xs : List ℕ) → option_map (λ n. n + length xs) (words_since_burst (known e)) ≡ words_since_burst (known (run_after e xs))
since_run e [] = none_more (words_since_burst (known e))
since_run e (x ∷ xs) = one_and (length xs) (words_since_burst (known e)) ∙ since_run (Data x ∷ e) xs

pub any_run : (e : List RxWord) (xs : List ℕ) → list_any is_bad (run_after e xs) ≡ list_any is_bad e
any_run e [] = refl
any_run e (x ∷ xs) = any_run (Data x ∷ e) xs

pub closed_run : (e : List RxWord) (xs : List ℕ) → closed (run_after e xs) ≡ closed e
closed_run e [] = refl
closed_run e (x ∷ xs) = closed_run (Data x ∷ e) xs

pub accepted_run : (e : List RxWord) (xs : List ℕ) → accepted_before (run_after e xs) ≡ accepted_before e
accepted_run e [] = refl
accepted_run e (x ∷ xs) = accepted_run (Data x ∷ e) xs

last_from : (x : ℕ) (ys : List ℕ) → get_or (x ∷ ys) (length ys) 0 ≡ last_or x ys
last_from x [] = refl
last_from x (y ∷ ys) = last_from y ys

-- the last number by its place
pub last_at : (d : ℕ) (xs : List ℕ) → 0 < length xs → get_or xs (length xs - 1) 0 ≡ last_or d xs
last_at d [] h = absurd (omega (arith, h))
last_at d (x ∷ xs) h = (let same : length (x ∷ xs) - 1 ≡ length xs = omega arith in ap (λ (n : ℕ). get_or (x ∷ xs) n 0) same ∙ last_from x xs)

pub some_left : (xs : List ℕ) → false ≡ (length xs == 0) → 0 < length xs
some_left [] h = absurd (cc h)
some_left (x ∷ xs) h = omega arith

-- ---- one word more

pub run_more : (e : List RxWord) (xs : List ℕ) (x : ℕ) → run_after e (xs ++ x ∷ []) ≡ Data x ∷ run_after e xs
run_more e [] x = refl
run_more e (y ∷ xs) x = run_more (Data y ∷ e) xs x

pub rows_run : (p : Plan) (e : List RxWord) (xs : List ℕ) (x : ℕ) → faults_from p e (words (xs ++ x ∷ [])) ≡ faults_from p e (words xs) ++ data_rows p.limits (run_after e xs)
rows_run p e [] x = append-nil (data_rows p.limits e)
rows_run p e (y ∷ xs) x =
    ap (λ (l : List Fault). data_rows p.limits e ++ l) (rows_run p (Data y ∷ e) xs x)
    ∙ sym (append_assoc (data_rows p.limits e) (faults_from p (Data y ∷ e) (words xs)) (data_rows p.limits (run_after (Data y ∷ e) xs)))

pub run_at : (e : List RxWord) (xs : List ℕ) (i d : ℕ) → i < length xs → run_after e (take (i + 1) xs) ≡ Data (get_or xs i d) ∷ run_after e (take i xs)
run_at e xs i d lt = ap (run_after e) (take_more xs i d lt) ∙ run_more e (take i xs) (get_or xs i d)

pub rows_at : (p : Plan) (e : List RxWord) (xs : List ℕ) (i d : ℕ) → i < length xs →
    faults_from p e (words (take (i + 1) xs)) ≡ faults_from p e (words (take i xs)) ++ data_rows p.limits (run_after e (take i xs))
rows_at p e xs i d lt = ap (λ (l : List ℕ). faults_from p e (words l)) (take_more xs i d lt) ∙ rows_run p e (take i xs) (get_or xs i d)

part_le : (i : ℕ) (xs : List ℕ) → length (take i xs) ≤ length xs
part_le zero xs = omega arith
part_le (suc i) [] = omega arith
part_le (suc i) (x ∷ xs) = (let h = part_le i xs in omega arith)

pub run_few : (e : List RxWord) (xs : List ℕ) (i n : ℕ) → length e + length xs < n → length (run_after e (take i xs)) < n
run_few e xs i n h = (let a = length_run e (take i xs) in let b = part_le i xs in omega arith)

-- ---- no fault

-- no place of the run breaks `max`
abbrev pub Free : WordLimits → List RxWord → ℕ → Type 0
Free s e n = (k : ℕ) → k < n → (is_some (burst_before e) && (k + length (data_before e) == s.burst_max / 8)) ≡ false

none_told : (s : WordLimits) (e : List RxWord) (n : ℕ) → breaks_data e ≡ false → Free s e (suc n) → data_rows s e ≡ []
none_told s e n d h =
    let same : length (data_before e) ≡ 0 + length (data_before e) = omega arith in
    let m : breaks_max s e ≡ false = ap (λ (k : ℕ). is_some (burst_before e) && (k == s.burst_max / 8)) same ∙ h 0 (omega arith) in
    rw (d, m) refl

pub free_rows : (p : Plan) (e : List RxWord) (xs : List ℕ) → breaks_data e ≡ false → Free p.limits e (length xs) → faults_from p e (words xs) ≡ []
free_rows p e [] d h = refl
free_rows p e (x ∷ xs) d h =
    ap (λ (l : List Fault). l ++ faults_from p (Data x ∷ e) (words xs)) (none_told p.limits e (length xs) d h)
    ∙ free_rows p (Data x ∷ e) xs refl
    (λ k lt. (let same : k + suc (length (data_before e)) ≡ suc k + length (data_before e) = omega arith in
    ap (λ (n : ℕ). is_some (burst_before e) && (n == p.limits.burst_max / 8)) same ∙ h (suc k) (omega (arith, lt))))

off_most : (size most n k : ℕ) → (nat_le size most && nat_lt most (size + n)) ≡ false → k < n → (k + size == most) ≡ false
off_most size most n k h lt = grind (arith, nat_tests)

left_false : (a b : Bool) → (a || b) ≡ false → a ≡ false
left_false false b h = refl
left_false true b h = absurd (cc h)

right_false : (a b : Bool) → (a || b) ≡ false → b ≡ false
right_false false b h = h
right_false true b h = absurd (cc h)

free_by : (size most n k : ℕ) (b : Bool) → (b && (nat_le size most && nat_lt most (size + n))) ≡ false → k < n → (b && (k + size == most)) ≡ false
free_by size most n k false h lt = refl
free_by size most n k true h lt = off_most size most n k h lt

-- where no word of a run may break a rule there are no rows
pub no_rows : (p : Plan) (b : Before) (e : List RxWord) (xs : List ℕ) → IsBefore b e → run_by p.limits b (length xs) ≡ false → faults_from p e (words xs) ≡ []
no_rows p b e xs s h =
    free_rows p e xs (sym (data_is b e s) ∙ left_false _ _ h)
    (λ k lt. subst (λ (n : ℕ). (is_some (burst_before e) && (k + n == p.limits.burst_max / 8)) ≡ false) s.size
    (subst (λ (o : Option ℕ). (is_some o && (k + b.size == p.limits.burst_max / 8)) ≡ false) s.burst
    (free_by b.size (p.limits.burst_max / 8) (length xs) k (is_some b.burst) (right_false _ _ h) lt)))

-- Elements of lists, lists with one element more, and ranges.
use Rattle.std.proofs.Common.{ℕ, zero, suc, ◌≡◌, ◌⊎◌, inl, inr, refl, sym, ap, ap₂, ◌∙◌, subst, ◌+◌, ◌<◌, ◌≤◌, Bool, true, List, [], ◌∷◌, ◌++◌, length, map, Contains, None, Some, slice_get, arith}
use Rattle.std.specs.List.{list_all, range_with_len}
use Rattle.std.proofs.lemmas.Bool.{and_from, and_parts, cases_lt}
use Rattle.std.proofs.lemmas.Option.{none-some}
use Rattle.std.proofs.lemmas.List.FromFn.{map-range_with_len_more}

-- ---- elements

pub contains_none : {A : Type 0} (y : A) → Contains [] y → ⊥
contains_none y (k, lt, e) = absurd (omega arith)

pub contains_cons : {A : Type 0} (x y : A) (xs : List A) → Contains (x ∷ xs) y → (y ≡ x) ⊎ Contains xs y
contains_cons x y xs (zero, lt, e) = inl (sym e)
contains_cons x y xs (suc k, lt, e) = inr (k, omega arith, e)

pub contains_here : {A : Type 0} (x : A) (xs : List A) → Contains (x ∷ xs) x
contains_here x xs = (zero, omega arith, refl)

pub contains_there : {A : Type 0} (x y : A) (xs : List A) → Contains xs y → Contains (x ∷ xs) y
contains_there x y xs (k, lt, e) = (suc k, omega arith, e)

pub head_same : {A : Type 0} (x y : A) (xs ys : List A) → ◌≡◌ {A = List A} (x ∷ xs) (y ∷ ys) → x ≡ y
head_same x y xs ys e = cc

pub tail_same : {A : Type 0} (x y : A) (xs ys : List A) → ◌≡◌ {A = List A} (x ∷ xs) (y ∷ ys) → xs ≡ ys
tail_same x y xs ys e = cc

pub none_is : {A : Type 0} (xs : List A) → slice_get xs 0 ≡ None → xs ≡ []
none_is [] e = refl
none_is (x ∷ xs) e = absurd (none-some x (sym e))

-- ---- one element more

pub list_all-more : {A : Type 0} (test : A → Bool) (xs : List A) (x : A) → list_all test xs ≡ true → test x ≡ true → list_all test (xs ++ x ∷ []) ≡ true
list_all-more test [] x h e = rw e refl
list_all-more test (y ∷ ys) x h e = let two = and_parts (test y) (list_all test ys) h in and_from (test y) (list_all test (ys ++ x ∷ [])) two.0 (list_all-more test ys x two.1 e)

pub some_more : {A : Type 0} (xs : List A) (x : A) → slice_get (xs ++ x ∷ []) (length xs) ≡ Some x
some_more [] x = refl
some_more (y ∷ xs) x = some_more xs x

pub front_more : {A : Type 0} (xs : List A) (x : A) (n : ℕ) → n < length xs → slice_get (xs ++ x ∷ []) n ≡ slice_get xs n
front_more [] x n h = absurd (omega arith)
front_more (y ∷ xs) x zero h = refl
front_more (y ∷ xs) x (suc n) h = (let k : n < length xs = omega arith in front_more xs x n k)

-- ---- ranges

pub in_range : (first n m : ℕ) → first ≤ m → m < first + n → Contains (range_with_len first n) m
in_range first zero m h k = absurd (omega (arith, h, k))
in_range first (suc n) m h k = elim (cases_lt first m) [
  | inl lt ↦ contains_there first m (range_with_len (first + 1) n) (in_range (first + 1) n m (omega (arith, lt)) (omega (arith, k)))
  | inr le ↦ (let e : first ≡ m = omega (arith, h, le) in subst (λ (z : ℕ). Contains (range_with_len first (suc n)) z) e (contains_here first (range_with_len (first + 1) n)))
]

pub below_range : (first n m : ℕ) → Contains (range_with_len first n) m → m < first + n
below_range first zero m c = absurd (contains_none m c)
below_range first (suc n) m c = elim (contains_cons first m (range_with_len (first + 1) n) c) [
  | inl e ↦ omega (arith, e)
  | inr d ↦ (let lt = below_range (first + 1) n m d in omega (arith, lt))
]

pub split_range : (a m n : ℕ) → range_with_len a (m + n) ≡ range_with_len a m ++ range_with_len (a + m) n
split_range a zero n = let e : zero + n ≡ n = omega arith in let f : a + zero ≡ a = omega arith in rw (e, f) refl
split_range a (suc m) n =
    let e : suc m + n ≡ suc (m + n) = omega arith in
    let f : a + suc m ≡ a + 1 + m = omega arith in
    ap (range_with_len a) e ∙ ap (λ ns. a ∷ ns) (split_range (a + 1) m n) ∙ ap (λ b. a ∷ (range_with_len (a + 1) m ++ range_with_len b n)) (sym f)

pub range_more : {X : Type 0} (f : ℕ → X) (n : ℕ) → map f (range_with_len 0 (n + 1)) ≡ map f (range_with_len 0 n) ++ f n ∷ []
range_more f n = map-range_with_len_more f 0 n n (omega arith)

pub map_range_same : {X : Type 0} (f g : ℕ → X) (n : ℕ) → ((i : ℕ) → i < n → f i ≡ g i) → map f (range_with_len 0 n) ≡ map g (range_with_len 0 n)
map_range_same f g zero h = refl
map_range_same f g (suc n) h =
    let e : suc n ≡ n + 1 = omega arith in
    ap (λ m. map f (range_with_len 0 m)) e ∙ range_more f n ∙ ap₂ (λ xs x. xs ++ x ∷ []) (map_range_same f g n (λ k l. h k (omega arith))) (h n (omega arith)) ∙ sym (range_more g n) ∙ sym (ap (λ m. map g (range_with_len 0 m)) e)

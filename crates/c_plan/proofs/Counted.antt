-- The channels in order of number are as many as are listed.
use Rattle.std.proofs.Common.{ℕ, zero, suc, ◌≡◌, refl, sym, ap, ◌∙◌, ◌+◌, ◌<◌, ◌≤◌, Bool, true, false, cond, eqb, List, [], ◌∷◌, length, arith}
use Rattle.std.specs.Prelude.{count_by, nat_le, ◌||◌, ◌==◌}
use Rattle.std.specs.List.{AllByRecursion, IsDistinct, range_with_len}
use Rattle.std.proofs.Math.ListN.{length-map}
use Rattle.std.proofs.lemmas.Bool.{and_parts, eq-eqb, eqb-true, leb-true, false≢true, or_right}
use Rattle.std.proofs.lemmas.List.Sums.{length-filter, sum_by-cons}
use Rattle.link_plan.specs.Listing.{channels_in_order, fit_width, is_listed, numbers_of}
use Rattle.link_plan.specs.declared.channel.ChannelRow.{ChannelRow}
use Rattle.link_plan.proofs.Whole.{fit-top, order-few}
use Rattle.c_plan.specs.Laws.{AllChannelsAreListed}

count_first : (p : ℕ → Bool) (x : ℕ) (xs : List ℕ) → count_by p (x ∷ xs) ≡ cond (p x) 1 0 + count_by p xs
count_first p x xs = sum_by-cons (λ y. cond (p y) 1 0) x xs

-- of two tests that no number passes both, as many pass one of them as pass each
apart : (p q : ℕ → Bool) (xs : List ℕ) → ((n : ℕ) → p n ≡ true → q n ≡ false) → count_by (λ n. p n || q n) xs ≡ count_by p xs + count_by q xs
apart p q [] h = refl
apart p q (x ∷ xs) h =
    let a = count_first (λ n. p n || q n) x xs in
    let b = count_first p x xs in
    let c = count_first q x xs in
    let rest = apart p q xs h in
    let one = each (p x) (q x) (h x) in
    omega (arith, a, b, c, rest, one)
  where
    each : (a b : Bool) → (a ≡ true → b ≡ false) → cond (a || b) 1 0 ≡ cond a 1 0 + cond b 1 0
    each true true h = absurd (false≢true (sym (h refl)))
    each true false h = refl
    each false true h = refl
    each false false h = refl

-- a number that is there passes
here : (m a len : ℕ) → a ≤ m → m < a + len → 1 ≤ count_by (λ n. m == n) (range_with_len a len)
here m a zero low high = absurd (omega (arith, low, high))
here m a (suc len) low high = by (m == a) refl (λ next. here m (a + 1) len next (omega (arith, high)))
  where
    by : (b : Bool) → (m == a) ≡ b → (a + 1 ≤ m → 1 ≤ count_by (λ n. m == n) (range_with_len (a + 1) len)) → 1 ≤ count_by (λ n. m == n) (a ∷ range_with_len (a + 1) len)
    by true t rest =
        let more = count_first (λ n. m == n) a (range_with_len (a + 1) len) in
        let one : cond {A = ℕ} (m == a) 1 0 ≡ 1 = ap (λ (b : Bool). cond {A = ℕ} b 1 0) t in
        omega (arith, more, one)
    by false t rest =
        let more = count_first (λ n. m == n) a (range_with_len (a + 1) len) in
        let other = rest (above m a low (λ e. false≢true (sym t ∙ eq-eqb m a e))) in
        omega (arith, more, other)
      where
        above : (m a : ℕ) → a ≤ m → (m ≡ a → ⊥) → a + 1 ≤ m
        above m a low ne = omega (arith, low, ne)

-- a number that differs from all is not listed
not_listed : (m : ℕ) (ms : List ℕ) → AllByRecursion (λ y. eqb m y ≡ false) ms → is_listed ms m ≡ false
not_listed m [] differ = refl
not_listed m (y ∷ ys) differ = by (y == m) refl (not_listed m ys differ.1)
  where
    by : (b : Bool) → (y == m) ≡ b → is_listed ys m ≡ false → (b || is_listed ys m) ≡ false
    by true t rest = absurd (false≢true (sym differ.0 ∙ eq-eqb m y (sym (eqb-true y m t))))
    by false t rest = rest

first_listed : (m : ℕ) (ms : List ℕ) → is_listed (m ∷ ms) m ≡ true
first_listed m ms = ap (λ (b : Bool). b || is_listed ms m) (eq-eqb m m refl)

later_listed : (m : ℕ) (ms : List ℕ) (n : ℕ) → is_listed ms n ≡ true → is_listed (m ∷ ms) n ≡ true
later_listed m ms n e = or_right (m == n) (is_listed ms n) e

listed_below : (len : ℕ) (numbers : List ℕ) → IsDistinct eqb numbers → ((n : ℕ) → is_listed numbers n ≡ true → n < len) → length numbers ≤ count_by (is_listed numbers) (range_with_len 0 len)
unfolding IsDistinct
listed_below len [] distinct below = omega arith
listed_below len (m ∷ ms) distinct below =
    let low = below m (first_listed m ms) in
    let one = here m 0 len (omega arith) (omega (arith, low)) in
    let rest = listed_below len ms distinct.1 (λ n e. below n (later_listed m ms n e)) in
    let sum = apart (λ n. m == n) (is_listed ms) (range_with_len 0 len) (λ n e. ap (is_listed ms) (sym (eqb-true m n e)) ∙ not_listed m ms distinct.0) in
    omega (arith, one, rest, sum)

fits_below : (numbers : List ℕ) → fit_width true numbers ≡ true → (n : ℕ) → is_listed numbers n ≡ true → n < 65536
fits_below [] fit n e = absurd (false≢true e)
fits_below (m ∷ ms) fit n e =
    let parts = and_parts (nat_le m 65535) (fit_width true ms) fit in
    by (m == n) refl e (leb-true m 65535 parts.0) (fits_below ms parts.1 n)
  where
    by : (b : Bool) → (m == n) ≡ b → (b || is_listed ms n) ≡ true → m ≤ 65535 → (is_listed ms n ≡ true → n < 65536) → n < 65536
    by true t e low rest = let same = eqb-true m n t in omega (arith, low, same)
    by false t e low rest = rest e

all_in_order : (numbers : List ℕ) → IsDistinct eqb numbers → fit_width true numbers ≡ true → length (channels_in_order numbers) ≡ length numbers
unfolding channels_in_order
all_in_order numbers distinct fit =
    let few = order-few numbers in
    let size = length-filter (is_listed numbers) (range_with_len 0 65536) in
    let many = listed_below 65536 numbers distinct (fits_below numbers fit) in
    as_many (length (channels_in_order numbers)) (length numbers) (count_by (is_listed numbers) (range_with_len 0 65536)) few size many
  where
    as_many : (l n c : ℕ) → l ≤ n → l ≡ c → n ≤ c → l ≡ n
    as_many l n c few size many = omega (arith, few, size, many)

pub all_channels_are_listed : AllChannelsAreListed
all_channels_are_listed plan =
    all_in_order (numbers_of plan.channels.items) plan.distinct (fit-top plan.wide (numbers_of plan.channels.items) plan.in_width)
    ∙ length-map plan.channels.items (λ (c : ChannelRow). c.number)

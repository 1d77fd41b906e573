-- A lane follows its account through any calls.
use Rattle.std.proofs.Common.{ℕ, zero, suc, ◌≡◌, ◌≢◌, refl, sym, ap, ◌∙◌, subst, ◌+◌, ◌*◌, ◌^◌, ◌%◌, ◌≤◌, ◌<◌, Bool, true, false, cond, List, [], ◌∷◌, ◌++◌, length, get_or, set, replicate, arith, inl, inr, Result, Ok, Err, None, Some}
use Rattle.std.specs.Prelude.{◌||◌, ◌==◌, not, filter, nat_le, nat_lt, count_by}
use Rattle.std.proofs.lemmas.Bool.{cases_Bool, eqb-true, eqb-false, ltb-false, leb-false, ne_eqb}
use Rattle.std.proofs.lemmas.List.{length-append, get_or-set_same, get_or-set_other}
use Rattle.std.proofs.lemmas.List.Sums.{sum_by-append, sum_by-cons}
use Rattle.std.proofs.lemmas.List.Concat.{flat_map-append}
use Rattle.lk_base.specs.Checksum.{bits_of, bits_of_bytes}
use Rattle.lane_model.specs.Damage.{DarkBits, LaneDamage, damaged_bits, is_dark, received_bit}
use Rattle.lane_model.proofs.FilesHold.{length-flat_map_bits}
use Rattle.lane_damage.specs.Bits.{damaged_from}
use Rattle.lane_damage.specs.OnWay.{IsApply, IsDark, IsFlip, OnWay, dark_from, flip_refusal, untouched, with_dark, with_flip}
use Rattle.lane_damage.specs.CallsLaw.{Account, Apply, AreCalls, Call, Dark, Flip, JoinsToTheDamagedLane, Leads, account, lane_of, no_account, taken}
use Rattle.lane_damage.specs.declared.refused.Refused.{Refused}
use Rattle.lane_damage.specs.declared.refused.Refused.TheVariants as refusals
use Rattle.lane_damage.proofs.Covers.{covered, covered-more, covers}
use Rattle.lane_damage.proofs.RowSteps.{covers-none}

-- how many of these flips name bit number n
abbrev named : List ℕ → ℕ → ℕ
named flips n = count_by (λ b. b == n) flips

-- ---- damaged bits in two parts

damaged-append : (d : LaneDamage) (n : ℕ) (xs ys : List Bool) → damaged_from d n (xs ++ ys) ≡ damaged_from d n xs ++ damaged_from d (n + length xs) ys
damaged-append d n [] ys = let e : n + 0 ≡ n = omega arith in rw e refl
damaged-append d n (x ∷ xs) ys =
    let e : n + 1 + length xs ≡ n + suc (length xs) = omega arith in
    ap (λ r. received_bit d (n, x) ∷ r) (damaged-append d (n + 1) xs ys ∙ ap (λ k. damaged_from d (n + 1) xs ++ damaged_from d k ys) e)

-- the same happens to these bits
record SameOn (c d : LaneDamage) (from to : ℕ) : Type 0 where
  darks : (n : ℕ) → from ≤ n → n < to → is_dark c n ≡ is_dark d n
  flips : (n : ℕ) → from ≤ n → n < to → named c.flips n ≡ named d.flips n

same-bit : (c d : LaneDamage) (n : ℕ) (b : Bool) → is_dark c n ≡ is_dark d n → named c.flips n ≡ named d.flips n → received_bit c (n, b) ≡ received_bit d (n, b)
same-bit c d n b dark flips =
    ap (λ t. cond t false (cond (named c.flips n % 2 == 1) (not b) b)) dark ∙ ap (λ k. cond (is_dark d n) false (cond (k % 2 == 1) (not b) b)) flips

same-bits : (c d : LaneDamage) (n to : ℕ) (xs : List Bool) → n + length xs ≤ to → SameOn c d n to → damaged_from c n xs ≡ damaged_from d n xs
same-bits c d n to [] h same = refl
same-bits c d n to (x ∷ xs) h same =
    ap (λ b. b ∷ damaged_from c (n + 1) xs) (same-bit c d n x (same.darks n (omega arith) (omega (arith, h))) (same.flips n (omega arith) (omega (arith, h))))
    ∙ ap (λ r. received_bit d (n, x) ∷ r) (same-bits c d (n + 1) to xs (omega (arith, h)) (record { darks = λ m a b. same.darks m (omega (arith, a)) b; flips = λ m a b. same.flips m (omega (arith, a)) b }))

-- ---- a row more

named-more : (flips : List ℕ) (bit n : ℕ) → named (flips ++ bit ∷ []) n ≡ named flips n + cond (bit == n) 1 0
named-more flips bit n =
    let one : 0 + cond (bit == n) 1 0 ≡ cond (bit == n) 1 0 = omega arith in
    sum_by-append (λ b. cond (b == n) 1 0) flips (bit ∷ []) ∙ ap (λ k. named flips n + k) one

named-other : (flips : List ℕ) (bit n : ℕ) → n < bit → named (flips ++ bit ∷ []) n ≡ named flips n
named-other flips bit n h =
    let e : (bit == n) ≡ false = ne_eqb bit n (λ same. absurd (omega (arith, h, same))) in
    named-more flips bit n ∙ ap (λ t. named flips n + cond t 1 0) e ∙ (let z : named flips n + 0 ≡ named flips n = omega arith in z)

dark-other : (darks : List DarkBits) (x : DarkBits) (n : ℕ) → n < x.first → covered (darks ++ x ∷ []) n ≡ covered darks n
dark-other darks x n h = covered-more darks x n ∙ ap (λ t. covered darks n || t) (covers-none x n (inl h)) ∙ or-false (covered darks n)
  where
    or-false : (t : Bool) → (t || false) ≡ t
    or-false true = refl
    or-false false = refl

-- ---- rows that are kept

named-kept : (k n : ℕ) (flips : List ℕ) → k ≤ n → named (filter (λ bit. nat_le k bit) flips) n ≡ named flips n
named-kept k n [] h = refl
named-kept k n (f ∷ flips) h = elim (cases_Bool (nat_le k f)) [
  | inl kept ↦ rw kept (sum_by-cons bit f (filter (λ b. nat_le k b) flips) ∙ ap (λ m. bit f + m) (named-kept k n flips h) ∙ sym (sum_by-cons bit f flips))
  | inr gone ↦
      let less = leb-false k f gone in
      let none : (f == n) ≡ false = ne_eqb f n (λ same. absurd (omega (arith, less, same, h))) in
      let zero_more : cond (f == n) 1 0 + named flips n ≡ named flips n = ap (λ t. cond t 1 0 + named flips n) none ∙ (let z : 0 + named flips n ≡ named flips n = omega arith in z) in
      rw gone (named-kept k n flips h ∙ sym (sum_by-cons bit f flips ∙ zero_more))
]
  where
    bit : ℕ → ℕ
    bit b = cond (b == n) 1 0

dark-kept : (k n : ℕ) (darks : List DarkBits) → k ≤ n → covered (filter (λ (d : DarkBits). nat_lt k (d.first + d.count)) darks) n ≡ covered darks n
dark-kept k n [] h = refl
dark-kept k n (x ∷ darks) h = elim (cases_Bool (nat_lt k (x.first + x.count))) [
  | inl kept ↦ rw kept (ap (λ t. covers n x || t) (dark-kept k n darks h))
  | inr gone ↦ (let over = ltb-false k (x.first + x.count) gone in let none : covers n x ≡ false = covers-none x n (inr (omega (arith, over, h))) in rw (gone, none) (dark-kept k n darks h))
]

-- ---- one lane

-- so many bytes were given, those that came are damaged, and of the account's rows the lane has what they say of later bits
record Follows (v : OnWay) (a : Account) : Type 0 where
  passed : v.passed ≡ length a.sent
  joined : bits_of_bytes a.received ≡ damaged_bits a.damage (bits_of_bytes a.sent)
  darks : (n : ℕ) → 8 * v.passed ≤ n → is_dark v.damage n ≡ is_dark a.damage n
  flips : (n : ℕ) → 8 * v.passed ≤ n → named v.damage.flips n ≡ named a.damage.flips n

-- bits that have passed stay as they are
stay-joined : (v : OnWay) (a : Account) (d : LaneDamage) → Follows v a → SameOn a.damage d 0 (8 * v.passed) → bits_of_bytes a.received ≡ damaged_bits d (bits_of_bytes a.sent)
stay-joined v a d f same =
    let size = length-flat_map_bits 8 a.sent in
    let passed = f.passed in
    f.joined ∙ same-bits a.damage d 0 (8 * v.passed) (bits_of_bytes a.sent) (omega (arith, size, passed)) same

flip_ahead : (v : OnWay) (bit : ℕ) → flip_refusal v bit ≡ None → 8 * v.passed ≤ bit
flip_ahead v bit e = by (nat_lt bit (2 ^ 44)) (nat_lt bit (8 * v.passed)) refl e
  where
    by : (t u : Bool) → nat_lt bit (8 * v.passed) ≡ u → cond t (cond u (Some refusals.Passed) None) (Some refusals.OutOfRange) ≡ None → 8 * v.passed ≤ bit
    by true false u e = ltb-false bit (8 * v.passed) u
    by true true u e = absurd (let k : Some refusals.Passed ≡ None = e in cc)
    by false t u e = absurd (let k : Some refusals.OutOfRange ≡ None = e in cc)

flip_step : (v w : OnWay) (lane bit : ℕ) (answer : Result (Unit {0}) Refused) (a : Account) → IsFlip v w bit answer → Follows v a → Follows w (taken (Flip lane bit answer) a)
flip_step v w lane bit (Err why) a is f = subst (λ u. Follows u a) (sym is.1) f
flip_step v w lane bit (Ok u) a is f =
    let ahead = flip_ahead v bit is.0 in
    subst (λ t. Follows t (record a { damage = with_flip bit a.damage })) (sym is.1) (record {
      passed = f.passed;
      joined = stay-joined v a (with_flip bit a.damage) f (record { darks = λ n low high. refl; flips = λ n low high. sym (named-other a.damage.flips bit n (omega (arith, ahead, high))) });
      darks = f.darks;
      flips = λ n h. named-more v.damage.flips bit n ∙ ap (λ k. k + cond (bit == n) 1 0) (f.flips n h) ∙ sym (named-more a.damage.flips bit n);
    })

dark_step : (v w : OnWay) (lane first count : ℕ) (answer : Result (Unit {0}) Refused) (a : Account) → IsDark v w first count answer → Follows v a → Follows w (taken (Dark lane first count answer) a)
dark_step v w lane first count (Err why) a is f = subst (λ u. Follows u a) (sym is.1) f
dark_step v w lane first count (Ok u) a is f =
    let passed = f.passed in
    let x = dark_from (8 * v.passed) first count in
    let same : dark_from (8 * v.passed) first count ≡ dark_from (8 * length a.sent) first count = ap (λ k. dark_from (8 * k) first count) passed in
    let with_x = record a { damage = with_dark x a.damage } in
    subst (λ y. Follows w (record a { damage = with_dark y a.damage })) same
    (subst (λ t. Follows t (record a { damage = with_dark x a.damage })) (sym is.1) (record {
      passed = f.passed;
      joined = stay-joined v a (with_dark x a.damage) f (record { darks = λ n low high. sym (dark-other a.damage.darks x n (omega (arith, high))); flips = λ n low high. refl });
      darks = λ n h. covered-more v.damage.darks x n ∙ ap (λ t. t || covers n x) (f.darks n h) ∙ sym (covered-more a.damage.darks x n);
      flips = f.flips;
    }))

apply_step : (v w : OnWay) (lane : ℕ) (old new : List ℕ) (answer : Result (Unit {0}) Refused) (a : Account) → IsApply v w old new answer → Follows v a → Follows w (taken (Apply lane old new answer) a)
apply_step v w lane old new (Err why) a is f = subst (λ u. Follows u a) (sym is.2) f
apply_step v w lane old new (Ok u) a is f =
    let passed = f.passed in
    let size = length-flat_map_bits 8 a.sent in
    let place : 0 + length (bits_of_bytes a.sent) ≡ 8 * v.passed = omega (arith, size, passed) in
    let long = length-append a.sent old in
    let piece = bits_of_bytes old in
    let same : damaged_from v.damage (8 * v.passed) piece ≡ damaged_from a.damage (8 * v.passed) piece =
    same-bits v.damage a.damage (8 * v.passed) (8 * v.passed + length piece) piece (omega arith) (record { darks = λ n low high. f.darks n low; flips = λ n low high. f.flips n low }) in
    subst (λ t. Follows t (record a { sent = a.sent ++ old; received = a.received ++ new })) (sym is.2) (record {
      passed = omega (arith, passed, long);
      joined =
          flat_map-append (bits_of 8) a.received new
          ∙ ap (λ front. front ++ bits_of_bytes new) f.joined
          ∙ ap (λ back. damaged_bits a.damage (bits_of_bytes a.sent) ++ back) (is.1 ∙ same ∙ ap (λ k. damaged_from a.damage k piece) (sym place))
          ∙ sym (damaged-append a.damage 0 (bits_of_bytes a.sent) piece)
          ∙ ap (damaged_bits a.damage) (sym (flat_map-append (bits_of 8) a.sent old));
      darks = λ n h. dark-kept (8 * (v.passed + length old)) n v.damage.darks h ∙ f.darks n (omega (arith, h));
      flips = λ n h. named-kept (8 * (v.passed + length old)) n v.damage.flips h ∙ f.flips n (omega (arith, h));
    })

-- ---- all lanes

-- a call on the lane gives this account of it, and one on another none
moved : (lane i : ℕ) (vs ws : List OnWay) (a b : Account) (t : Bool) → (lane == i) ≡ t → Follows (get_or vs i untouched) a → (Follows (get_or vs lane untouched) a → Follows (get_or ws lane untouched) b) →
    (lane ≢ i → get_or ws i untouched ≡ get_or vs i untouched) → Follows (get_or ws i untouched) (cond t b a)
moved lane i vs ws a b true e f step keep =
    let same : lane ≡ i = eqb-true lane i e in
    subst (λ k. Follows (get_or ws k untouched) b) same (step (subst (λ k. Follows (get_or vs k untouched) a) (sym same) f))
moved lane i vs ws a b false e f step keep = subst (λ v. Follows v a) (sym (keep (eqb-false lane i e))) f

other : (vs ws : List OnWay) (lane i : ℕ) (w : OnWay) → ws ≡ set vs lane w → lane ≢ i → get_or ws i untouched ≡ get_or vs i untouched
other vs ws lane i w is ne = ap (λ us. get_or us i untouched) is ∙ get_or-set_other vs lane i w untouched (λ e. ne (sym e))

there : (vs ws : List OnWay) (lane : ℕ) (w : OnWay) → lane < length vs → ws ≡ set vs lane w → get_or ws lane untouched ≡ w
there vs ws lane w lt is = ap (λ us. get_or us lane untouched) is ∙ get_or-set_same vs lane w untouched lt

one_call : (call : Call) (vs ws : List OnWay) (i : ℕ) (a : Account) → Leads call vs ws → Follows (get_or vs i untouched) a → Follows (get_or ws i untouched) (cond (lane_of call == i) (taken call a) a)
one_call (Flip lane bit answer) vs ws i a leads f = elim leads [
  | inl h ↦ moved lane i vs ws a (taken (Flip lane bit answer) a) (lane == i) refl f
      (λ g. subst (λ r. Follows (get_or ws lane untouched) (taken (Flip lane bit r) a)) (sym h.1) (subst (λ us. Follows (get_or us lane untouched) a) (sym h.2) g))
      (λ ne. ap (λ us. get_or us i untouched) h.2)
  | inr h ↦ moved lane i vs ws a (taken (Flip lane bit answer) a) (lane == i) refl f
      (λ g. subst (λ v. Follows v (taken (Flip lane bit answer) a)) (sym (there vs ws lane h.1.0 h.0 h.1.2)) (flip_step (get_or vs lane untouched) h.1.0 lane bit answer a h.1.1 g))
      (other vs ws lane i h.1.0 h.1.2)
]
one_call (Dark lane first count answer) vs ws i a leads f = elim leads [
  | inl h ↦ moved lane i vs ws a (taken (Dark lane first count answer) a) (lane == i) refl f
      (λ g. subst (λ r. Follows (get_or ws lane untouched) (taken (Dark lane first count r) a)) (sym h.1) (subst (λ us. Follows (get_or us lane untouched) a) (sym h.2) g))
      (λ ne. ap (λ us. get_or us i untouched) h.2)
  | inr h ↦ moved lane i vs ws a (taken (Dark lane first count answer) a) (lane == i) refl f
      (λ g. subst (λ v. Follows v (taken (Dark lane first count answer) a)) (sym (there vs ws lane h.1.0 h.0 h.1.2)) (dark_step (get_or vs lane untouched) h.1.0 lane first count answer a h.1.1 g))
      (other vs ws lane i h.1.0 h.1.2)
]
one_call (Apply lane old new answer) vs ws i a leads f = elim leads [
  | inl h ↦ moved lane i vs ws a (taken (Apply lane old new answer) a) (lane == i) refl f
      (λ g. subst (λ r. Follows (get_or ws lane untouched) (taken (Apply lane old new r) a)) (sym h.1) (subst (λ us. Follows (get_or us lane untouched) a) (sym h.3) g))
      (λ ne. ap (λ us. get_or us i untouched) h.3)
  | inr h ↦ moved lane i vs ws a (taken (Apply lane old new answer) a) (lane == i) refl f
      (λ g. subst (λ v. Follows v (taken (Apply lane old new answer) a)) (sym (there vs ws lane h.1.0 h.0 h.1.2)) (apply_step (get_or vs lane untouched) h.1.0 lane old new answer a h.1.1 g))
      (other vs ws lane i h.1.0 h.1.2)
]

all_calls : (calls : List Call) (vs ws : List OnWay) (i : ℕ) (a : Account) → AreCalls vs calls ws → Follows (get_or vs i untouched) a → Follows (get_or ws i untouched) (account i calls a)
all_calls [] vs ws i a are f = subst (λ us. Follows (get_or us i untouched) a) are f
all_calls (call ∷ calls) vs ws i a are f = all_calls calls are.0 ws i (cond (lane_of call == i) (taken call a) a) are.2 (one_call call vs are.0 i a are.1 f)

fresh : (lanes i : ℕ) → get_or (replicate lanes untouched) i untouched ≡ untouched
fresh zero i = refl
fresh (suc lanes) zero = refl
fresh (suc lanes) (suc i) = fresh lanes i

begun : Follows untouched no_account
begun = record { passed = refl; joined = refl; darks = λ n h. refl; flips = λ n h. refl }

pub joins : JoinsToTheDamagedLane
joins lanes lane vs ws calls new are =
    (all_calls calls vs ws lane no_account are (subst (λ v. Follows v no_account) (sym (ap (λ us. get_or us lane untouched) new ∙ fresh lanes lane)) begun)).joined

-- Bits that end no word of a word lock, several at once.
use Rattle.std.proofs.Common.{ℕ, zero, suc, ◌≡◌, refl, sym, ap, ◌∙◌, subst, ◌+◌, ◌-◌, ◌*◌, ◌/◌, ◌%◌, ◌^◌, ◌<◌, ◌≤◌, ◌==◌, Bool, true, List, [], ◌∷◌, ◌++◌, length, take, reverse, replicate, append_assoc, Some, arith, inl, inr}
use Rattle.std.specs.Prelude.{slice_get}
use Rattle.std.specs.Int.{bit_at}
use Rattle.std.proofs.lemmas.Bool.{cases_lt}
use Rattle.std.proofs.lemmas.List.{length-append, take-append-le, take_all, reverse-append, length-reverse, append-nil}
use Rattle.std.proofs.lemmas.Nat.{div-add-mod'}
use Rattle.std.proofs.Math.Nat.{add-mul, add-mul-mod_self_right, mul_assoc, mul_comm}
use Rattle.lk_base.specs.Checksum.{bits_of}
use Rattle.lk_base.specs.Link.{Settings}
use Rattle.lk_base.proofs.Lists.{some_more, front_more}
use Rattle.lane_model.specs.Bits.{high_number, low_number}
use Rattle.lane_model.proofs.Numbers.{length-bits_of, number-bits_of}
use Rattle.lock_model.specs.declared.types.LaneStep.{LaneStep}
use Rattle.lock_model.specs.declared.types.LaneStep.TheVariants as steps
use Rattle.lock_model.specs.Locks.{AreAttempts}
use Rattle.lock_model.specs.Steps.{AreSteps, step_of}
use Rattle.lock_model.proofs.Reading.{low_number-append}
use Rattle.lane_lock.specs.Bytes.{Brings, Rests, with_bits}
use Rattle.lane_lock.specs.Lane.{LaneView, with_bit}
use Rattle.lane_lock.specs.Standing.{IsStep, Stands}
use Rattle.lane_lock.proofs.Lanes.{holding_short}
use Rattle.lane_lock.proofs.LastWord.{held}

-- ---- one step more

pub one_step : (s : Settings) (bits : List Bool) (b : Bool) (own : List LaneStep) (x : LaneStep) → AreSteps s bits own → IsStep s (bits ++ b ∷ []) x →
    AreSteps s (bits ++ b ∷ []) (own ++ x ∷ [])
one_step s bits b own x are is = record {
  long = length-append own (x ∷ []) ∙ ap (λ n. n + 1) are.long ∙ sym (length-append bits (b ∷ []));
  each = λ n attempts h k. elim (cases_lt n (length bits)) [
    | inl lt ↦ (
        let same : take (n + 1) (bits ++ b ∷ []) ≡ take (n + 1) bits = take-append-le (n + 1) bits (b ∷ []) (omega (arith, lt)) in
        front_more own x n (let l = are.long in omega (arith, lt, l))
        ∙ are.each n attempts lt (subst (λ (bs : List Bool). AreAttempts s.metaframe bs attempts) same k)
        ∙ ap (λ (bs : List Bool). Some (step_of s bs attempts)) (sym same))
    | inr le ↦ (
        let l = length-append bits (b ∷ []) in
        let here : n ≡ length own = (let m = are.long in omega (arith, le, h, l, m)) in
        let all : take (n + 1) (bits ++ b ∷ []) ≡ bits ++ b ∷ [] = take_all (n + 1) (bits ++ b ∷ []) (omega (arith, le, l)) in
        ap (slice_get (own ++ x ∷ [])) here ∙ some_more own x
        ∙ ap (λ (y : LaneStep). Some y) (is attempts (subst (λ (bs : List Bool). AreAttempts s.metaframe bs attempts) all k))
        ∙ ap (λ (bs : List Bool). Some (step_of s bs attempts)) (sym all))
  ];
}

-- ---- bits after one another

pub brings_none : (v : LaneView) → Brings v v [] []
brings_none v = λ s bits own st are. (
  subst (λ (bs : List Bool). Stands v s bs) (sym (append-nil bits)) st,
  subst (λ (bs : List Bool). AreSteps s bs (own ++ [])) (sym (append-nil bits)) (subst (λ (g : List LaneStep). AreSteps s bits g) (sym (append-nil own)) are),
)

pub brings_bit : (v w : LaneView) (b : Bool) (x : LaneStep) →
    ((s : Settings) (bits : List Bool) → Stands v s bits → Stands w s (bits ++ b ∷ []) × IsStep s (bits ++ b ∷ []) x) → Brings v w (b ∷ []) (x ∷ [])
brings_bit v w b x goes = λ s bits own st are. (let both = goes s bits st in (both.0, one_step s bits b own x are both.1))

pub brings_both : (u v w : LaneView) (first second : List Bool) (one two : List LaneStep) → Brings u v first one → Brings v w second two → Brings u w (first ++ second) (one ++ two)
brings_both u v w first second one two f g = λ s bits own st are. (
    let p = f s bits own st are in
    let q = g s (bits ++ first) (own ++ one) p.0 p.1 in
    let e = append_assoc bits first second in (
      subst (λ (bs : List Bool). Stands w s bs) e q.0,
      subst (λ (bs : List Bool). AreSteps s bs (own ++ (one ++ two))) e
          (subst (λ (g : List LaneStep). AreSteps s ((bits ++ first) ++ second) g) (append_assoc own one two) q.1),
    ))

pub brings_same : (v w : LaneView) (first second : List Bool) (one two : List LaneStep) → first ≡ second → one ≡ two → Brings v w first one → Brings v w second two
brings_same v w first second one two e f h = subst (λ (bs : List Bool). Brings v w bs two) e (subst (λ (g : List LaneStep). Brings v w first g) f h)

-- ---- within a word of a word lock

-- one bit after the other
abbrev all_bits : LaneView → List Bool → LaneView
all_bits v [] = v
all_bits v (b ∷ given) = all_bits (with_bit v b) given

abbrev pub with_both : LaneView → ℕ → ℕ → LaneView
with_both v window taken = record {
  window = window;
  taken = taken;
  from = v.from;
  starts = v.starts;
  marks = v.marks;
  watching = v.watching;
  at = v.at;
  watch = v.watch;
  report = v.report;
}

all_kept : (given : List Bool) (v : LaneView) → all_bits v given ≡ with_both v (all_bits v given).window (v.taken + length given)
all_kept [] v = (let e : v.taken ≡ v.taken + 0 = omega arith in ap (λ (n : ℕ). with_both v v.window n) e)
all_kept (b ∷ given) v =
    let e : v.taken + 1 + length given ≡ v.taken + suc (length given) = omega arith in
    all_kept given (with_bit v b) ∙ ap (λ (n : ℕ). with_both v (all_bits (with_bit v b) given).window n) e

all_brought : (given : List Bool) (v : LaneView) → v.watching ≡ true → v.taken + length given < v.at + 67 → Brings v (all_bits v given) given (replicate (length given) steps.Nothing)
all_brought [] v ew short = brings_none v
all_brought (b ∷ given) v ew short =
    brings_both v (with_bit v b) (all_bits (with_bit v b) given) (b ∷ []) given (steps.Nothing ∷ []) (replicate (length given) steps.Nothing)
    (brings_bit v (with_bit v b) b steps.Nothing (λ s bits k. holding_short v s bits b k (held v s bits k ew) ew (omega (arith, short))))
    (all_brought given (with_bit v b) ew (omega (arith, short)))

pushed_mod : (h k x m : ℕ) → (h % m * k + x) % m ≡ (x + k * h) % m
pushed_mod h k x m =
    let q = div-add-mod' h m in
    let e : x + k * h ≡ (h % m * k + x) + (h / m * k) * m = parts h (h / m) (h % m) k x m q in
    sym (ap (λ (y : ℕ). y % m) e ∙ add-mul-mod_self_right (h % m * k + x) (h / m * k) m)
  where
    parts : (h a r k x m : ℕ) → a * m + r ≡ h → x + k * h ≡ (r * k + x) + (a * k) * m
    parts h a r k x m q =
        let one : k * h ≡ (a * m + r) * k = mul_comm k h ∙ ap (λ (y : ℕ). y * k) (sym q) in
        let two : (a * m + r) * k ≡ a * m * k + r * k = add-mul (a * m) r k in
        let three : a * m * k ≡ (a * k) * m = mul_assoc a m k ∙ ap (λ (y : ℕ). a * y) (mul_comm m k) ∙ sym (mul_assoc a k m) in
        omega (arith, one, two, three)

-- the last 67 bits with this many more
windows_more : (window : ℕ) (bits given : List Bool) → window ≡ high_number bits % 2 ^ 67 → (window * 2 ^ length given + high_number given) % 2 ^ 67 ≡ high_number (bits ++ given) % 2 ^ 67
windows_more window bits given h =
    let r : length (reverse given) ≡ length given = length-reverse given in
    let parts : high_number (bits ++ given) ≡ high_number given + 2 ^ length given * high_number bits =
    ap low_number (reverse-append bits given) ∙ low_number-append (reverse given) (reverse bits) ∙ ap (λ (n : ℕ). high_number given + 2 ^ n * high_number bits) r in
    ap (λ (x : ℕ). (x * 2 ^ length given + high_number given) % 2 ^ 67) h ∙ pushed_mod (high_number bits) (2 ^ length given) (high_number given) (2 ^ 67)
    ∙ ap (λ (x : ℕ). x % 2 ^ 67) (sym parts)

-- this many bits at once
pub all_at_once : (v : LaneView) (count x : ℕ) → v.watching ≡ true → v.taken + count < v.at + 67 → x < 2 ^ count → Brings v (with_bits v count x) (bits_of count x) (replicate count steps.Nothing)
all_at_once v count x ew short low = λ s bits own st are. (
    let given = bits_of count x in
    let l : length given ≡ count = length-bits_of count x in
    let n : high_number given ≡ x = number-bits_of count x low in
    let p = all_brought given v ew (omega (arith, short, l)) s bits own st are in
    let w : (v.window * 2 ^ count + x) % 2 ^ 67 ≡ (all_bits v given).window =
    ap (λ (y : ℕ). (v.window * 2 ^ count + y) % 2 ^ 67) (sym n) ∙ ap (λ (y : ℕ). (v.window * 2 ^ y + high_number given) % 2 ^ 67) (sym l)
    ∙ windows_more v.window bits given st.window ∙ sym p.0.window in
    let same : all_bits v given ≡ with_bits v count x =
    all_kept given v ∙ ap (λ (y : ℕ). with_both v y (v.taken + length given)) (sym w) ∙ ap (λ (y : ℕ). with_both v ((v.window * 2 ^ count + x) % 2 ^ 67) (v.taken + y)) l in (
      subst (λ (z : LaneView). Stands z s (bits ++ given)) same p.0,
      subst (λ (y : ℕ). AreSteps s (bits ++ given) (own ++ replicate y steps.Nothing)) l p.1,
    ))

-- ---- a number's bits one by one

-- bit k, from the highest on
next_bit : (n k x : ℕ) → k < n → take (k + 1) (bits_of n x) ≡ take k (bits_of n x) ++ (bit_at x (n - 1 - k) == 1) ∷ []
unfolding bits_of
next_bit zero k x h = absurd (omega arith)
next_bit (suc n) zero x h = (let e : suc n - 1 - 0 ≡ n = omega arith in ap (λ m. (bit_at x m == 1) ∷ []) (sym e))
next_bit (suc n) (suc k) x h =
    let lt : k < n = omega arith in
    let e : suc k + 1 ≡ suc (k + 1) = omega arith in
    let f : suc n - 1 - suc k ≡ n - 1 - k = omega arith in
    ap (λ m. take m (bits_of (suc n) x)) e ∙ ap (λ bits. (bit_at x n == 1) ∷ bits) (next_bit n k x lt)
    ∙ ap (λ m. (bit_at x n == 1) ∷ (take k (bits_of n x) ++ (bit_at x m == 1) ∷ [])) (sym f)

pub nothings_more : (k : ℕ) → replicate k steps.Nothing ++ steps.Nothing ∷ [] ≡ replicate (k + 1) steps.Nothing
nothings_more zero = refl
nothings_more (suc k) =
    let e : suc k + 1 ≡ suc (k + 1) = omega arith in
    ap (λ (g : List LaneStep). steps.Nothing ∷ g) (nothings_more k) ∙ ap (λ (n : ℕ). replicate n steps.Nothing) (sym e)

-- the first bits were taken
pub record Sought (v w : LaneView) (count bits k : ℕ) : Type 0 where
  pub taken : w.taken ≡ v.taken + k
  pub rests : Rests w (count - k)
  pub stands : Brings v w (take k (bits_of count bits)) (replicate k steps.Nothing)

pub sought_none : (v : LaneView) (count bits : ℕ) → Rests v count → Sought v v count bits 0
sought_none v count bits rests = record { taken = omega arith; rests = λ ew. (let h = rests ew in omega (arith, h)); stands = brings_none v }

pub sought_more : (v w w' : LaneView) (count bits k : ℕ) (b : Bool) → k < count → count ≤ 56 → Sought v w count bits k → b ≡ (bit_at bits (count - 1 - k) == 1) → w'.taken ≡ w.taken + 1 →
    ((n : ℕ) → n ≤ 66 → Rests w (n + 1) → Rests w' n) →
    ((s : Settings) (given : List Bool) → Stands w s given → Stands w' s (given ++ b ∷ []) × IsStep s (given ++ b ∷ []) steps.Nothing) → Sought v w' count bits (k + 1)
sought_more v w w' count bits k b lt most sought e taken rests goes = record {
  taken = (let t = sought.taken in omega (arith, t, taken));
  rests = rests (count - (k + 1)) (omega (arith, most)) (λ ew. (let h = sought.rests ew in omega (arith, h, lt)));
  stands = brings_same v w' (take k (bits_of count bits) ++ b ∷ []) (take (k + 1) (bits_of count bits)) (replicate k steps.Nothing ++ steps.Nothing ∷ []) (replicate (k + 1) steps.Nothing)
      (ap (λ (c : Bool). take k (bits_of count bits) ++ c ∷ []) e ∙ sym (next_bit count k bits lt)) (nothings_more k)
      (brings_both v w w' (take k (bits_of count bits)) (b ∷ []) (replicate k steps.Nothing) (steps.Nothing ∷ []) sought.stands (brings_bit w w' b steps.Nothing goes));
}

pub sought_all : (v w : LaneView) (count bits k : ℕ) → count ≤ k → k ≤ count → Sought v w count bits k → Brings v w (bits_of count bits) (replicate count steps.Nothing)
sought_all v w count bits k low high sought =
    let e : k ≡ count = omega arith in
    brings_same v w (take k (bits_of count bits)) (bits_of count bits) (replicate k steps.Nothing) (replicate count steps.Nothing)
    (take_all k (bits_of count bits) (let l = length-bits_of count bits in omega (arith, l, low))) (ap (λ (n : ℕ). replicate n steps.Nothing) e) sought.stands

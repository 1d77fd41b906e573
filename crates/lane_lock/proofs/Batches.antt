-- The steps of many bits, without those that show nothing.
use Rattle.std.proofs.Common.{ℕ, zero, suc, ◌≡◌, refl, sym, ap, ◌∙◌, subst, ◌+◌, ◌-◌, ◌*◌, ◌<◌, ◌≤◌, Bool, true, false, cond, List, [], ◌∷◌, ◌++◌, length, replicate, take, drop, append_assoc, get_or, Some, None, arith}
use Rattle.std.proofs.Math.Seq.{take-add, take-append-add}
use Rattle.std.proofs.lemmas.List.{length-append, length-replicate, take_all, take_at, append-nil}
use Rattle.lk_base.specs.Checksum.{bits_of, bits_of_bytes}
use Rattle.lane_model.proofs.FilesHold.{length-flat_map_bits}
use Rattle.lane_model.proofs.Numbers.{length-bits_of}
use Rattle.lock_model.specs.declared.types.LaneStep.{LaneStep}
use Rattle.lock_model.specs.declared.types.LaneStep.TheVariants as steps
use Rattle.lock_model.specs.Low.{all_low, is_low}
use Rattle.lock_model.specs.Shows.{shown_in, shows}
use Rattle.lane_lock.specs.declared.completed.Completed.{Completed}
use Rattle.lane_lock.specs.Bytes.{Brings, BringsBatch, IsSparse, StaysSparse, steps_of_bits}
use Rattle.lane_lock.specs.Lane.{LaneView}
use Rattle.lane_lock.proofs.Resting.{brings_both, brings_none}

-- ---- steps that show something

shown_one : (b : Bool) (x : LaneStep) (front back : List LaneStep) → cond b (x ∷ (front ++ back)) (front ++ back) ≡ cond b (x ∷ front) front ++ back
shown_one true x front back = refl
shown_one false x front back = refl

pub shown_both : (xs ys : List LaneStep) → shown_in (xs ++ ys) ≡ shown_in xs ++ shown_in ys
shown_both [] ys = refl
shown_both (x ∷ xs) ys = ap (λ (g : List LaneStep). cond (shows x) (x ∷ g) g) (shown_both xs ys) ∙ shown_one (shows x) x (shown_in xs) (shown_in ys)

pub shown_nothings : (n : ℕ) → shown_in (replicate n steps.Nothing) ≡ []
shown_nothings zero = refl
shown_nothings (suc n) = shown_nothings n

pub low_both : (xs ys : List LaneStep) → all_low xs → all_low ys → all_low (xs ++ ys)
low_both [] ys a b = b
low_both (x ∷ xs) ys a b = (a.0, low_both xs ys a.1 b)

pub low_nothings : (n : ℕ) → all_low (replicate n steps.Nothing)
low_nothings zero = tt
low_nothings (suc n) = (tt, low_nothings n)

-- ---- bits after one another

pub batch_none : (v : LaneView) (before : List LaneStep) → BringsBatch v v [] before before
batch_none v before = record { column = []; long = refl; low = tt; appended = sym (append-nil before); brings = brings_none v }

pub batch_both : (u v w : LaneView) (first second : List Bool) (before between after : List LaneStep) → BringsBatch u v first before between → BringsBatch v w second between after →
    BringsBatch u w (first ++ second) before after
batch_both u v w first second before between after f g = record {
  column = f.column ++ g.column;
  long = (let l = length-append f.column g.column in let m = length-append first second in let a = f.long in let b = g.long in omega (arith, l, m, a, b));
  low = low_both f.column g.column f.low g.low;
  appended = g.appended ∙ ap (λ (xs : List LaneStep). xs ++ shown_in g.column) f.appended ∙ append_assoc before (shown_in f.column) (shown_in g.column)
      ∙ ap (λ (xs : List LaneStep). before ++ xs) (sym (shown_both f.column g.column));
  brings = brings_both u v w first second f.column g.column f.brings g.brings;
}

pub batch_same : (v w : LaneView) (first second : List Bool) (before after : List LaneStep) → first ≡ second → BringsBatch v w first before after → BringsBatch v w second before after
batch_same v w first second before after e h = subst (λ (bits : List Bool). BringsBatch v w bits before after) e h

-- ---- the steps of some bits, of which one at most shows something

-- a step at a place
pub batch_step : (v w : LaneView) (given : List Bool) (place behind : ℕ) (x : LaneStep) (before after : List LaneStep) → length given ≡ place + 1 + behind → is_low x →
    after ≡ before ++ shown_in (x ∷ []) → Brings v w given (replicate place steps.Nothing ++ x ∷ replicate behind steps.Nothing) → BringsBatch v w given before after
batch_step v w given place behind x before after long low e brings = record {
  column = replicate place steps.Nothing ++ x ∷ replicate behind steps.Nothing;
  long = (
      let a = length-append (replicate place steps.Nothing) (x ∷ replicate behind steps.Nothing) in
      let b = length-replicate place steps.Nothing in
      let c = length-replicate behind steps.Nothing in
      omega (arith, a, b, c, long));
  low = low_both (replicate place steps.Nothing) (x ∷ replicate behind steps.Nothing) (low_nothings place) (low, low_nothings behind);
  appended = e ∙ ap (λ (xs : List LaneStep). before ++ xs) (sym (
      shown_both (replicate place steps.Nothing) (x ∷ replicate behind steps.Nothing)
      ∙ ap (λ (xs : List LaneStep). xs ++ shown_in (x ∷ replicate behind steps.Nothing)) (shown_nothings place)
      ∙ ap (λ (xs : List LaneStep). cond (shows x) (x ∷ xs) xs) (shown_nothings behind)));
  brings = brings;
}

-- that of a whole word
pub batch_whole : (v w : LaneView) (code : ℕ) (given : List Bool) (x : LaneStep) (before after : List LaneStep) → bits_of 67 code ≡ given → is_low x → after ≡ before ++ shown_in (x ∷ []) →
    Brings v w (bits_of 67 code) (replicate 66 steps.Nothing ++ x ∷ []) → BringsBatch v w given before after
batch_whole v w code given x before after is low e brings =
    batch_same v w (bits_of 67 code) given before after is (batch_step v w (bits_of 67 code) 66 0 x before after (length-bits_of 67 code) low e brings)

pub batch_ends : (v w : LaneView) (width bits : ℕ) (c : Completed) (before after : List LaneStep) → c.place < width → is_low c.step → after ≡ before ++ shown_in (c.step ∷ []) →
    Brings v w (bits_of width bits) (steps_of_bits width (Some c)) → BringsBatch v w (bits_of width bits) before after
batch_ends v w width bits c before after within low e brings =
    batch_step v w (bits_of width bits) c.place (width - 1 - c.place) c.step before after (let l = length-bits_of width bits in omega (arith, l, within)) low e brings

-- none
pub batch_rests : (v w : LaneView) (width bits : ℕ) (before : List LaneStep) → Brings v w (bits_of width bits) (steps_of_bits width None) → BringsBatch v w (bits_of width bits) before before
batch_rests v w width bits before brings = record {
  column = replicate width steps.Nothing;
  long = length-replicate width steps.Nothing ∙ sym (length-bits_of width bits);
  low = low_nothings width;
  appended = sym (ap (λ (xs : List LaneStep). before ++ xs) (shown_nothings width) ∙ append-nil before);
  brings = brings;
}

-- ---- how many steps there are

shown_most : (x : LaneStep) → length (shown_in (x ∷ [])) ≤ 1
shown_most steps.Nothing = omega arith
shown_most (steps.Word w role at) = omega arith
shown_most (steps.Locked at) = omega arith
shown_most (steps.Lost why at) = omega arith
shown_most steps.Ended = omega arith

pub sparse_word : (v w : LaneView) (x : LaneStep) (before after : List LaneStep) → v.at + 67 ≤ w.at → v.taken < w.at → after ≡ before ++ shown_in (x ∷ []) →
    StaysSparse v (length before) w (length after)
sparse_word v w x before after further behind e first had early sparse =
    let l : length after ≡ length before + length (shown_in (x ∷ [])) = ap length e ∙ length-append before (shown_in (x ∷ [])) in
    let m = shown_most x in
    omega (arith, further, behind, early, sparse, l, m)

pub sparse_rest : (v w : LaneView) (count : ℕ) → v.at ≤ w.at → StaysSparse v count w count
sparse_rest v w count later first had early sparse = omega (arith, later, early, sparse)

-- ---- whole words

-- this many words of these bits were taken from where one began
pub record Ran (v w : LaneView) (given : List Bool) (words : ℕ) (before after : List LaneStep) : Type 0 where
  pub taken : w.taken ≡ v.taken + 67 * words
  pub at : w.at ≡ v.at + 67 * words
  pub few : length after ≤ length before + words
  pub batch : BringsBatch v w (take (67 * words) given) before after

pub ran_none : (v : LaneView) (given : List Bool) (before : List LaneStep) → Ran v v given 0 before before
ran_none v given before = record { taken = omega arith; at = omega arith; few = omega arith; batch = batch_none v before }

pub ran_more : (u v w : LaneView) (given : List Bool) (words code : ℕ) (x : LaneStep) (before between after : List LaneStep) → Ran u v given words before between →
    w.taken ≡ v.taken + 67 → w.at ≡ v.at + 67 → bits_of 67 code ≡ take 67 (drop (67 * words) given) → is_low x → after ≡ between ++ shown_in (x ∷ []) →
    Brings v w (bits_of 67 code) (replicate 66 steps.Nothing ++ x ∷ []) → Ran u w given (words + 1) before after
ran_more u v w given words code x before between after r taken at is low e brings = record {
  taken = (let t = r.taken in omega (arith, t, taken));
  at = (let t = r.at in omega (arith, t, at));
  few = (
      let l : length after ≡ length between + length (shown_in (x ∷ [])) = ap length e ∙ length-append between (shown_in (x ∷ [])) in
      let m = shown_most x in
      let f = r.few in
      omega (arith, l, m, f));
  batch = (
      let n : 67 * words + 67 ≡ 67 * (words + 1) = omega arith in
      batch_same u w (take (67 * words) given ++ take 67 (drop (67 * words) given)) (take (67 * (words + 1)) given) before after
      (sym (take-add (67 * words) 67 given) ∙ ap (λ (m : ℕ). take m given) n)
      (batch_both u v w (take (67 * words) given) (take 67 (drop (67 * words) given)) before between after r.batch (batch_whole v w code (take 67 (drop (67 * words) given)) x between after is low e brings)));
}

-- ---- the first bits of a batch

-- the first n of these bits were taken
pub record Batched (v w : LaneView) (given : List Bool) (n : ℕ) (before after : List LaneStep) : Type 0 where
  pub taken : w.taken ≡ v.taken + n
  pub sparse : IsSparse v.taken (length before) w (length after)
  pub batch : BringsBatch v w (take n given) before after

pub batched_none : (v : LaneView) (given : List Bool) (before : List LaneStep) → Batched v v given 0 before before
batched_none v given before = record { taken = omega arith; sparse = omega arith; batch = batch_none v before }

pub batched_more : (u v w : LaneView) (given piece : List Bool) (n m : ℕ) (before between after : List LaneStep) → Batched u v given n before between → w.taken ≡ v.taken + m →
    StaysSparse v (length between) w (length after) → BringsBatch v w piece between after → take n given ++ piece ≡ take (n + m) given → Batched u w given (n + m) before after
batched_more u v w given piece n m before between after b taken sparse more e = record {
  taken = (let t = b.taken in omega (arith, t, taken));
  sparse = sparse u.taken (length before) (let t = b.taken in omega (arith, t)) b.sparse;
  batch = batch_same u w (take n given ++ piece) (take (n + m) given) before after e (batch_both u v w (take n given) piece before between after b.batch more);
}

pub batched_all : (v w : LaneView) (given : List Bool) (n : ℕ) (before after : List LaneStep) → length given ≤ n → Batched v w given n before after → BringsBatch v w given before after
batched_all v w given n before after all b = batch_same v w (take n given) given before after (take_all n given all) b.batch

-- a byte more
next_byte : (bytes : List ℕ) (k byte : ℕ) → k < length bytes → get_or bytes k 0 ≡ byte → take (8 * k) (bits_of_bytes bytes) ++ bits_of 8 byte ≡ take (8 * k + 8) (bits_of_bytes bytes)
next_byte [] k byte lt is = absurd (omega (arith, lt))
next_byte (b ∷ bytes) zero byte lt is = sym (take_at (bits_of 8 b) (bits_of_bytes bytes) 8 (length-bits_of 8 b) ∙ ap (bits_of 8) is)
next_byte (b ∷ bytes) (suc k) byte lt is =
    let l = length-bits_of 8 b in
    let e : 8 * suc k ≡ length (bits_of 8 b) + 8 * k = omega (arith, l) in
    let f : length (bits_of 8 b) + (8 * k + 8) ≡ 8 * suc k + 8 = omega (arith, l) in
    ap (λ (n : ℕ). take n (bits_of 8 b ++ bits_of_bytes bytes) ++ bits_of 8 byte) e
    ∙ ap (λ (bits : List Bool). bits ++ bits_of 8 byte) (take-append-add (bits_of 8 b) (bits_of_bytes bytes) (8 * k))
    ∙ append_assoc (bits_of 8 b) (take (8 * k) (bits_of_bytes bytes)) (bits_of 8 byte)
    ∙ ap (λ (bits : List Bool). bits_of 8 b ++ bits) (next_byte bytes k byte (omega (arith, lt)) is)
    ∙ sym (take-append-add (bits_of 8 b) (bits_of_bytes bytes) (8 * k + 8)) ∙ ap (λ (n : ℕ). take n (bits_of 8 b ++ bits_of_bytes bytes)) f

pub batched_byte : (u v w : LaneView) (bytes : List ℕ) (k byte : ℕ) (before between after : List LaneStep) → k < length bytes → get_or bytes k 0 ≡ byte → Batched u v (bits_of_bytes bytes) (8 * k) before between →
    w.taken ≡ v.taken + 8 → StaysSparse v (length between) w (length after) → BringsBatch v w (bits_of 8 byte) between after → Batched u w (bits_of_bytes bytes) (8 * (k + 1)) before after
batched_byte u v w bytes k byte before between after lt is b taken sparse more =
    let e : 8 * k + 8 ≡ 8 * (k + 1) = omega arith in
    subst (λ (n : ℕ). Batched u w (bits_of_bytes bytes) n before after) e
    (batched_more u v w (bits_of_bytes bytes) (bits_of 8 byte) (8 * k) 8 before between after b taken sparse more (next_byte bytes k byte lt is))

pub length-bytes : (bytes : List ℕ) → length (bits_of_bytes bytes) ≡ 8 * length bytes
length-bytes bytes = length-flat_map_bits 8 bytes

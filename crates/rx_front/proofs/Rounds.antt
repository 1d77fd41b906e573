-- What a round changes of a lane.
use Rattle.std.proofs.Common.{ℕ, zero, suc, ◌≡◌, refl, sym, ap, ◌∙◌, subst, ◌+◌, ◌-◌, ◌*◌, ◌≤◌, ◌==◌, Bool, true, false, List, [], ◌∷◌, ◌++◌, length, take, drop, replicate, append-nil, append_assoc, Some, None, arith}
use Rattle.std.proofs.lemmas.Grind.{common_steps}
use Rattle.std.specs.Prelude.{slice_get, not, ◌||◌}
use Rattle.std.proofs.Math.Seq.{take-add, take-append-add, drop-append_seam, take-nil}
use Rattle.std.proofs.lemmas.Option.{slice_get_within, get_or_from_slice_get}
use Rattle.std.proofs.lemmas.List.{length-append, length-drop, length-replicate, length-take, take_all, replicate-append-replicate, drop-drop, take_more}
use Rattle.lk_base.specs.Checksum.{bits_of, bits_of_bytes}
use Rattle.lk_base.specs.Link.{Settings}
use Rattle.lk_base.proofs.Lists.{none_is}
use Rattle.lane_model.proofs.Numbers.{length-bits_of}
use Rattle.lock_model.specs.declared.types.LaneStep.{LaneStep}
use Rattle.lock_model.specs.declared.types.LaneStep.TheVariants as steps
use Rattle.lock_model.specs.Steps.{AreSteps}
use Rattle.lane_lock.specs.Bytes.{Brings}
use Rattle.lane_lock.specs.Lane.{LaneView}
use Rattle.lane_lock.specs.Standing.{Stands}
use Rattle.epoch_model.proofs.Leasts.{clash}
use Rattle.event_model.specs.Fed.{Fed, first_bits}
use Rattle.event_model.proofs.Clocks.{length-bits, bits-append}
use Rattle.rx_front.specs.States.{Lane}
use Rattle.rx_front.specs.Lanes.{IsColumn, IsTaken, LaneStands, is_ready}

-- ---- bits

-- the bits of the first bytes
pub bits_taken : (r : ℕ) (bytes : List ℕ) → take (8 * r) (bits_of_bytes bytes) ≡ bits_of_bytes (take r bytes)
bits_taken zero bytes = refl
bits_taken (suc r) [] = take-nil (8 * suc r)
bits_taken (suc r) (b ∷ bytes) =
    let l : 8 ≡ length (bits_of 8 b) = sym (length-bits_of 8 b) in
    let e : 8 * suc r ≡ length (bits_of 8 b) + 8 * r = omega (arith, l) in
    ap (λ n. take n (bits_of 8 b ++ bits_of_bytes bytes)) e ∙ take-append-add (bits_of 8 b) (bits_of_bytes bytes) (8 * r)
    ∙ ap (λ bits. bits_of 8 b ++ bits) (bits_taken r bytes)

ready_over : (over : Bool) (ring : List ℕ) → ring ≡ [] → (over || not (length ring == 0)) ≡ true → over ≡ true
ready_over true ring e h = refl
ready_over false ring e h = absurd (clash h (ap (λ (r : List ℕ). not (length r == 0)) e))

-- ---- a round finds a byte

slice_first : (r : ℕ) (bytes : List ℕ) → slice_get (drop r bytes) 0 ≡ slice_get bytes r
slice_first zero bytes = refl
slice_first (suc r) [] = refl
slice_first (suc r) (b ∷ bytes) = slice_first r bytes

take_next : (r : ℕ) (bytes : List ℕ) (byte : ℕ) → slice_get bytes r ≡ Some byte → take (r + 1) bytes ≡ take r bytes ++ byte ∷ []
take_next r bytes byte e = take_more bytes r 0 (slice_get_within bytes r byte e) ∙ ap (λ x. take r bytes ++ x ∷ []) (get_or_from_slice_get bytes r byte 0 e)

pub bits_next : (r : ℕ) (bytes : List ℕ) (byte : ℕ) → slice_get bytes r ≡ Some byte → take (8 * (r + 1)) (bits_of_bytes bytes) ≡ take (8 * r) (bits_of_bytes bytes) ++ bits_of 8 byte
bits_next r bytes byte e =
    bits_taken (r + 1) bytes ∙ ap bits_of_bytes (take_next r bytes byte e) ∙ bits-append (take r bytes) (byte ∷ [])
    ∙ ap (λ b. bits_of_bytes (take r bytes) ++ b) (append-nil (bits_of 8 byte)) ∙ ap (λ b. b ++ bits_of 8 byte) (sym (bits_taken r bytes))

-- how many steps a lane has after this many rounds
pub column_length : (s : Settings) (rounds : ℕ) (fed : Fed) (column : List LaneStep) → IsColumn s rounds fed column → length column ≡ 8 * rounds
column_length s rounds fed column is = grind (arith, common_steps)

-- a lane that took a byte and these steps
pub took : (v : Lane) (ring : List ℕ) (lock : LaneView) (given : List LaneStep) (byte : ℕ) (s : Settings) (rounds : ℕ) (fed : Fed) (column : List LaneStep) →
    slice_get v.ring 0 ≡ Some byte → ring ≡ drop 1 v.ring → length given ≡ 8 →
    ((s : Settings) (bits : List Bool) (own : List LaneStep) → Stands v.lock s bits → AreSteps s bits own → Stands lock s (bits ++ bits_of 8 byte) × AreSteps s (bits ++ bits_of 8 byte) (own ++ given)) →
    LaneStands v s rounds fed column →
    LaneStands (record { ring = ring; finished = v.finished; fed = v.fed; lock = lock; steps = given }) s (rounds + 1) fed (column ++ given)
took v ring lock given byte s rounds fed column first rest eight goes st =
    let here : slice_get fed.bytes rounds ≡ Some byte = sym (slice_first rounds fed.bytes) ∙ ap (λ r. slice_get r 0) (sym st.ring) ∙ first in
    let lt = slice_get_within fed.bytes rounds byte here in
    let bits = bits_next rounds fed.bytes byte here in
    let both = goes s (first_bits (8 * rounds) fed) st.completed.own st.lock st.completed.are in
    let long = column_length s rounds fed column st.completed in
    let l = st.completed.are.long in
    let t = length-take (8 * rounds) (bits_of_bytes fed.bytes) in
    let b = length-bits fed.bytes in
    let own_all : 8 * rounds - length st.completed.own ≡ 0 = omega (arith, l, t, b, lt) in
    let own_is : column ≡ st.completed.own = st.completed.shown ∙ ap (λ n. st.completed.own ++ replicate n steps.Ended) own_all ∙ append-nil st.completed.own in
    let more = length-append st.completed.own given in
    let none_more : 8 * (rounds + 1) - length (st.completed.own ++ given) ≡ 0 = omega (arith, l, t, b, lt, more, eight) in
    record {
      ring = rest ∙ ap (drop 1) st.ring ∙ drop-drop 1 rounds fed.bytes;
      finished = st.finished;
      count = st.count;
      in_time = λ open_lane. omega (arith, lt);
      lock = subst (λ (bs : List Bool). Stands lock s bs) (sym bits) both.0;
      completed = record {
        own = st.completed.own ++ given;
        are = subst (λ (bs : List Bool). AreSteps s bs (st.completed.own ++ given)) (sym bits) both.1;
        shown = ap (λ c. c ++ given) own_is ∙ sym (append-nil (st.completed.own ++ given)) ∙ ap (λ n. (st.completed.own ++ given) ++ replicate n steps.Ended) (sym none_more);
      };
      last = λ some. (let e : 8 * (rounds + 1) - length given ≡ length column = omega (arith, long, eight) in sym (ap (λ n. drop n (column ++ given)) e ∙ drop-append_seam column given));
    }

-- a lane that was found at its end
pub found_at_end : (v : Lane) (ring : List ℕ) (given : List LaneStep) (s : Settings) (rounds : ℕ) (fed : Fed) (column : List LaneStep) →
    slice_get v.ring 0 ≡ None → ring ≡ drop 1 v.ring → given ≡ replicate 8 steps.Ended → is_ready v ≡ true → LaneStands v s rounds fed column →
    LaneStands (record { ring = ring; finished = v.finished; fed = v.fed; lock = v.lock; steps = given }) s (rounds + 1) fed (column ++ given)
found_at_end v ring given s rounds fed column none rest ended ready st =
    let empty : v.ring ≡ [] = none_is v.ring none in
    let over : fed.finished ≡ true = sym st.finished ∙ ready_over v.finished v.ring empty ready in
    let len : length (drop rounds fed.bytes) ≡ 0 = ap length (sym st.ring ∙ empty) in
    let d = length-drop rounds fed.bytes in
    let short : length fed.bytes ≤ rounds = omega (arith, len, d) in
    let b = length-bits fed.bytes in
    let all : first_bits (8 * (rounds + 1)) fed ≡ first_bits (8 * rounds) fed =
    take_all (8 * (rounds + 1)) (bits_of_bytes fed.bytes) (omega (arith, b, short)) ∙ sym (take_all (8 * rounds) (bits_of_bytes fed.bytes) (omega (arith, b, short))) in
    let long = column_length s rounds fed column st.completed in
    let l = st.completed.are.long in
    let t = length-take (8 * rounds) (bits_of_bytes fed.bytes) in
    let n : 8 * rounds - length st.completed.own + 8 ≡ 8 * (rounds + 1) - length st.completed.own = omega (arith, l, t) in
    record {
      ring = rest ∙ ap (drop 1) st.ring ∙ drop-drop 1 rounds fed.bytes;
      finished = st.finished;
      count = st.count;
      in_time = λ open_lane. absurd (clash over open_lane);
      lock = subst (λ (bs : List Bool). Stands v.lock s bs) (sym all) st.lock;
      completed = record {
        own = st.completed.own;
        are = subst (λ (bs : List Bool). AreSteps s bs st.completed.own) (sym all) st.completed.are;
        shown = ap (λ c. c ++ given) st.completed.shown ∙ ap (λ g. (st.completed.own ++ replicate (8 * rounds - length st.completed.own) steps.Ended) ++ g) ended
            ∙ append_assoc st.completed.own (replicate (8 * rounds - length st.completed.own) steps.Ended) (replicate 8 steps.Ended)
            ∙ ap (λ r. st.completed.own ++ r) (replicate-append-replicate (8 * rounds - length st.completed.own) 8 steps.Ended ∙ ap (λ m. replicate m steps.Ended) n);
      };
      last = λ some. (let e : 8 * (rounds + 1) - length given ≡ length column = (let g = ap length ended in let r = length-replicate 8 steps.Ended in omega (arith, long, g, r)) in sym (ap (λ m. drop m (column ++ given)) e ∙ drop-append_seam column given));
    }

-- ---- rounds at once

bits_more : (r n : ℕ) (bytes : List ℕ) → take (8 * (r + n)) (bits_of_bytes bytes) ≡ take (8 * r) (bits_of_bytes bytes) ++ bits_of_bytes (take n (drop r bytes))
bits_more r n bytes =
    bits_taken (r + n) bytes ∙ ap bits_of_bytes (take-add r n bytes) ∙ bits-append (take r bytes) (take n (drop r bytes))
    ∙ ap (λ b. b ++ bits_of_bytes (take n (drop r bytes))) (sym (bits_taken r bytes))

-- a lane that took this many bytes and these steps, and kept these of them
pub took_steps : (v : Lane) (ring : List ℕ) (later : LaneView) (given kept : List LaneStep) (n : ℕ) (s : Settings) (rounds : ℕ) (fed : Fed) (column : List LaneStep) → length given ≡ 8 * n → 1 ≤ n → n ≤ length v.ring → ring ≡ drop n v.ring →
    Brings v.lock later (bits_of_bytes (take n v.ring)) given → kept ≡ drop (8 * (rounds + n) - length kept) (column ++ given) → LaneStands v s rounds fed column →
    LaneStands (record { ring = ring; finished = v.finished; fed = v.fed; lock = later; steps = kept }) s (rounds + n) fed (column ++ given)
took_steps v ring later given kept n s rounds fed column count some has rest goes last st =
    let d = length-drop rounds fed.bytes in
    let r = ap length st.ring in
    let lt : rounds + n ≤ length fed.bytes = omega (arith, d, r, has, some) in
    let more : first_bits (8 * (rounds + n)) fed ≡ first_bits (8 * rounds) fed ++ bits_of_bytes (take n v.ring) =
    bits_more rounds n fed.bytes ∙ ap (λ (x : List ℕ). take (8 * rounds) (bits_of_bytes fed.bytes) ++ bits_of_bytes (take n x)) (sym st.ring) in
    let together = goes s (first_bits (8 * rounds) fed) st.completed.own st.lock st.completed.are in
    let l = st.completed.are.long in
    let t = length-take (8 * rounds) (bits_of_bytes fed.bytes) in
    let b = length-bits fed.bytes in
    let own_all : 8 * rounds - length st.completed.own ≡ 0 = omega (arith, l, t, b, lt) in
    let own_is : column ≡ st.completed.own = st.completed.shown ∙ ap (λ k. st.completed.own ++ replicate k steps.Ended) own_all ∙ append-nil st.completed.own in
    let a = length-append st.completed.own given in
    let none_more : 8 * (rounds + n) - length (st.completed.own ++ given) ≡ 0 = omega (arith, l, t, b, lt, a, count) in
    record {
      ring = rest ∙ ap (drop n) st.ring ∙ drop-drop n rounds fed.bytes;
      finished = st.finished;
      count = st.count;
      in_time = λ open_lane. lt;
      lock = subst (λ (bs : List Bool). Stands later s bs) (sym more) together.0;
      completed = record {
        own = st.completed.own ++ given;
        are = subst (λ (bs : List Bool). AreSteps s bs (st.completed.own ++ given)) (sym more) together.1;
        shown = ap (λ c. c ++ given) own_is ∙ sym (append-nil (st.completed.own ++ given)) ∙ ap (λ k. (st.completed.own ++ given) ++ replicate k steps.Ended) (sym none_more);
      };
      last = λ _. last;
    }

-- and kept all of them
took_bytes : (v : Lane) (ring : List ℕ) (later : LaneView) (given : List LaneStep) (n bits : ℕ) (s : Settings) (rounds : ℕ) (fed : Fed) (column : List LaneStep) → length given ≡ 8 * n → 1 ≤ n → n ≤ length v.ring → ring ≡ drop n v.ring →
    bits_of (8 * n) bits ≡ bits_of_bytes (take n v.ring) → Brings v.lock later (bits_of (8 * n) bits) given → LaneStands v s rounds fed column →
    LaneStands (record { ring = ring; finished = v.finished; fed = v.fed; lock = later; steps = given }) s (rounds + n) fed (column ++ given)
took_bytes v ring later given n bits s rounds fed column count some has rest are goes st =
    let long = column_length s rounds fed column st.completed in
    let e : 8 * (rounds + n) - length given ≡ length column = omega (arith, long, count) in
    took_steps v ring later given given n s rounds fed column count some has rest
    (subst (λ (bs : List Bool). Brings v.lock later bs given) are goes)
    (sym (ap (λ m. drop m (column ++ given)) e ∙ drop-append_seam column given)) st

-- the same of the lane as a call sees it
pub is_taken : (u v : Lane) (ring : List ℕ) (later : LaneView) (given : List LaneStep) (n bits : ℕ) → v ≡ u → length given ≡ 8 * n → 1 ≤ n → n ≤ length v.ring → ring ≡ drop n v.ring →
    bits_of (8 * n) bits ≡ bits_of_bytes (take n v.ring) → Brings v.lock later (bits_of (8 * n) bits) given →
    IsTaken n u (record { ring = ring; finished = v.finished; fed = v.fed; lock = later; steps = given })
is_taken u v ring later given n bits e count some has rest are goes =
    subst (λ (x : Lane). IsTaken n x (record { ring = ring; finished = v.finished; fed = v.fed; lock = later; steps = given })) e (record {
      ring = rest;
      long = count;
      stands = λ s rounds fed column st. took_bytes v ring later given n bits s rounds fed column count some has rest are goes st;
    })

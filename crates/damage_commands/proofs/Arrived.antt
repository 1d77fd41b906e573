-- Lanes as they are received: there is one list of their files, and it is made lane by lane.
use Rattle.std.proofs.Common.{◌≡◌, ℕ, zero, suc, ◌<◌, ◌≤◌, ◌+◌, ◌-◌, ◌*◌, inl, inr, All, Bool, true, false, List, [], ◌∷◌, ◌++◌, length, map, take, drop, replicate, get_or, refl, sym, ap, ◌∙◌, subst, arith, append_assoc, append-nil}
use Rattle.std.specs.List.{range_with_len}
use Rattle.std.proofs.lemmas.Bool.{cases_lt}
use Rattle.std.proofs.lemmas.List.{ext_get_or, get_or-take, length-append, length-drop, length-replicate, length-take-le, length_push, take-append-drop}
use Rattle.std.proofs.lemmas.List.FromFn.{length-map-range_with_len, get_or-map-range_with_len}
use Rattle.std.proofs.Math.Seq.{drop-append_seam, take-append_seam}
use Rattle.lk_base.specs.Checksum.{bits_of_bytes}
use Rattle.lane_model.specs.Damage.{LaneDamage, damaged_bits, received_bits}
use Rattle.lane_model.specs.LaneBits.{IsFileOf}
use Rattle.lane_model.proofs.FilesHold.{files_determined, length-flat_map_bits, only}
use Rattle.link_plan.specs.Schedules.{ScheduleValue}
use Rattle.link_replay.specs.Damages.{lane_damage}
use Rattle.damage_commands.specs.Struck.{damaged_line, differing, struck}
use Rattle.damage_commands.specs.Damage.{AreArrived, IsArrived, line_of, lines_from}
use Rattle.damage_commands.proofs.Differing.{differing_take}
use Rattle.damage_commands.proofs.NoneStruck.{as_long}

-- ---- one list

pub one_arrived : (schedule : ScheduleValue) (sent a b : List (List ℕ)) → AreArrived schedule sent a → AreArrived schedule sent b → a ≡ b
one_arrived schedule sent a b h k =
    let n = h.as_many in
    ext_get_or [] a b (h.as_many ∙ sym k.as_many) (λ i lt. let below : i < length sent = omega arith in
    only (received_bits (lane_damage schedule i) (bits_of_bytes (get_or sent i []))) (get_or a i []) (get_or b i []) (h.each i below) (k.each i below))

from_zero : (k : ℕ) → 0 + k ≡ k
from_zero k = omega arith

pub some_arrived : (schedule : ScheduleValue) (sent : List (List ℕ)) → (received : List (List ℕ)) × AreArrived schedule sent received
some_arrived schedule sent =
    let file : ℕ → List ℕ = λ lane. (files_determined.has (received_bits (lane_damage schedule lane) (bits_of_bytes (get_or sent lane [])))).0 in (
      map file (range_with_len 0 (length sent)),
      record {
        as_many = length-map-range_with_len file 0 (length sent);
        each = λ i lt. subst (IsArrived schedule i (get_or sent i [])) (sym (get_or-map-range_with_len file 0 (length sent) i i [] lt (from_zero i)))
            (files_determined.has (received_bits (lane_damage schedule i) (bits_of_bytes (get_or sent i [])))).1;
      },
    )

-- ---- one lane more

at_front : (xs : List (List ℕ)) (y : List ℕ) (i : ℕ) → i < length xs → get_or (xs ++ y ∷ []) i [] ≡ get_or xs i []
at_front [] y i lt = absurd (omega arith)
at_front (x ∷ xs) y zero lt = refl
at_front (x ∷ xs) y (suc i) lt = at_front xs y i (omega arith)

at_end : (xs : List (List ℕ)) (y : List ℕ) (n : ℕ) → n ≡ length xs → get_or (xs ++ y ∷ []) n [] ≡ y
at_end [] y zero e = refl
at_end [] y (suc n) e = absurd (omega arith)
at_end (x ∷ xs) y zero e = absurd (omega arith)
at_end (x ∷ xs) y (suc n) e = at_end xs y n (omega arith)

pub none_arrived : (schedule : ScheduleValue) → AreArrived schedule [] []
none_arrived schedule = record { as_many = refl; each = λ i lt. absurd (omega arith) }

pub arrived_more : (schedule : ScheduleValue) (sent received : List (List ℕ)) (lane new : List ℕ) (number : ℕ) → length sent ≡ number → AreArrived schedule sent received → IsArrived schedule number lane new →
    AreArrived schedule (sent ++ lane ∷ []) (received ++ new ∷ [])
arrived_more schedule sent received lane new number at are is = record {
  as_many = length_push received new ∙ ap (λ n. n + 1) are.as_many ∙ sym (length_push sent lane);
  each = λ i lt. elim (cases_lt i (length sent)) [
    | inl below ↦ (
        let many = are.as_many in
        subst (λ (x : List ℕ). IsArrived schedule i x (get_or (received ++ new ∷ []) i [])) (sym (at_front sent lane i below))
        (subst (λ (x : List ℕ). IsArrived schedule i (get_or sent i []) x) (sym (at_front received new i (omega arith))) (are.each i below)))
    | inr over ↦ (
        let long = length_push sent lane in
        let here : i ≡ length sent = omega arith in
        let there : i ≡ length received = here ∙ sym are.as_many in
        subst (λ (x : List ℕ). IsArrived schedule i x (get_or (received ++ new ∷ []) i [])) (sym (at_end sent lane i here))
        (subst (λ (x : List ℕ). IsArrived schedule i lane x) (sym (at_end received new i there)) (subst (λ n. IsArrived schedule n lane new) (sym at ∙ sym here) is)))
  ];
}

pub lines_more : (schedule : ScheduleValue) (from number : ℕ) (sent : List (List ℕ)) (lane : List ℕ) → from + length sent ≡ number →
    lines_from schedule from (sent ++ lane ∷ []) ≡ lines_from schedule from sent ++ line_of schedule number lane
lines_more schedule from number [] lane at =
    let e : from ≡ number = omega (arith, at) in append-nil (line_of schedule from lane) ∙ ap (λ n. line_of schedule n lane) e
lines_more schedule from number (x ∷ sent) lane at =
    ap (λ (rest : List ℕ). line_of schedule from x ++ rest) (lines_more schedule (suc from) number sent lane (omega (arith, at)))
    ∙ sym (append_assoc (line_of schedule from x) (lines_from schedule (suc from) sent) (line_of schedule number lane))

-- the first lanes, received, are the first of all that are
pub prefix_arrived : (schedule : ScheduleValue) (sent : List (List ℕ)) (count : ℕ) (first received : List (List ℕ)) → count ≤ length sent → AreArrived schedule (take count sent) first → AreArrived schedule sent received →
    (rest : List (List ℕ)) × ((received ≡ first ++ rest) × (length rest ≡ length sent - count))
prefix_arrived schedule sent count first received within are all =
    let long : length (take count sent) ≡ count = length-take-le count sent within in
    let many = all.as_many in
    let few = are.as_many in
    let held : length (take count received) ≡ count = length-take-le count received (omega (arith, many, within)) in
    let same : take count received ≡ first = ext_get_or [] (take count received) first (held ∙ sym (few ∙ long)) (λ i lt. let below : i < count = omega (arith, lt, held) in
    get_or-take count received i [] below
    ∙ only (received_bits (lane_damage schedule i) (bits_of_bytes (get_or sent i []))) (get_or received i []) (get_or first i []) (all.each i (omega (arith, below, within)))
    (subst (λ (x : List ℕ). IsArrived schedule i x (get_or first i [])) (get_or-take count sent i [] below) (are.each i (omega (arith, below, long))))) in
    (drop count received, (sym (take-append-drop count received) ∙ ap (λ (cs : List (List ℕ)). cs ++ drop count received) same, length-drop count received ∙ ap (λ n. n - count) many))

-- ---- what is told of a lane

all_bits : (sent : List ℕ) (bits : ℕ) → bits ≡ 8 * length sent → take bits (bits_of_bytes sent) ≡ bits_of_bytes sent
all_bits sent bits e =
    ap (λ n. take n (bits_of_bytes sent)) (e ∙ sym (length-flat_map_bits 8 sent))
    ∙ ap (take (length (bits_of_bytes sent))) (sym (append-nil (bits_of_bytes sent))) ∙ take-append_seam (bits_of_bytes sent) []

-- a file of the received bits of all bits of a lane
pub all_arrived : (schedule : ScheduleValue) (lane : ℕ) (sent received : List ℕ) (bits : ℕ) → bits ≡ 8 * length sent →
    IsFileOf received (received_bits (lane_damage schedule lane) (take bits (bits_of_bytes sent))) → IsArrived schedule lane sent received
all_arrived schedule lane sent received bits e file = subst (λ (bs : List Bool). IsFileOf received (received_bits (lane_damage schedule lane) bs)) (all_bits sent bits e) file

module _ (damage : LaneDamage) (sent received : List ℕ) (skew : ℕ) (is : skew ≡ damage.skew) (file : IsFileOf received (received_bits damage (bits_of_bytes sent))) where
  abbrev ones : List Bool
  ones = replicate damage.skew true

  abbrev zeros : List Bool
  zeros = replicate file.padding false

  abbrev bits : List Bool
  bits = damaged_bits damage (bits_of_bytes sent)

  pub room : skew + 8 * length sent ≤ 8 * length received
  room =
      let a = length-flat_map_bits 8 received in
      let b = length-flat_map_bits 8 sent in
      let c = ap length file.holds in
      let d = length-append (ones ++ bits) zeros in
      let e = length-append ones bits in
      let f = as_long damage (bits_of_bytes sent) in
      let g = length-replicate damage.skew true in
      omega (arith, a, b, c, d, e, f, g, is)

  after_ones : drop skew (bits_of_bytes received) ≡ bits ++ zeros
  after_ones =
      ap (λ (xs : List Bool). drop skew xs) (file.holds ∙ append_assoc ones bits zeros)
      ∙ ap (λ n. drop n (ones ++ (bits ++ zeros))) (is ∙ sym (length-replicate damage.skew true))
      ∙ drop-append_seam ones (bits ++ zeros)

  pub struck_is : differing (drop skew (bits_of_bytes received)) (bits_of_bytes sent) ≡ struck damage (bits_of_bytes sent)
  struck_is =
      let long = as_long damage (bits_of_bytes sent) in
      let enough : length (bits_of_bytes sent) ≤ length bits = omega (arith, long) in
      ap (λ (xs : List Bool). differing xs (bits_of_bytes sent)) after_ones
      ∙ sym (differing_take (bits ++ zeros) (bits_of_bytes sent) (length bits) enough)
      ∙ ap (λ (xs : List Bool). differing xs (bits_of_bytes sent)) (take-append_seam bits zeros)

pub same_line : (lane skew bits unused k b u : ℕ) → skew ≡ k → bits ≡ b → unused ≡ u → damaged_line lane skew bits unused ≡ damaged_line lane k b u
same_line lane skew bits unused k b u x y z = cc

-- ---- one of the lanes

pub held_at : {A : Type 0} (P : A → Type 0) (before : List A) (x : A) (after all : List A) → before ++ x ∷ after ≡ all → All P all → P x
held_at {A = A} P before x after all e holds = go before (subst (All P) (sym e) holds)
  where
    go : (front : List A) → All P (front ++ x ∷ after) → P x
    go [] h = h 0 x (omega arith)
    go (y ∷ front) h = go front (λ k d lt. h (suc k) d (omega (arith, lt)))

-- A receiver that is fed.
use Rattle.std.proofs.Common.{ℕ, zero, suc, ◌≡◌, refl, sym, ap, ◌∙◌, subst, ◌+◌, ◌<◌, ◌≤◌, Bool, true, false, List, [], ◌∷◌, ◌++◌, length, get_or, set, take, replicate, Option, Some, None, min, arith, inl, inr}
use Rattle.std.specs.Prelude.{◌^◌, ◌&&◌, not, is_some, nat_lt, if◌then◌else◌}
use Rattle.std.proofs.Common.{true≢false}
use Rattle.std.proofs.lemmas.Bool.Decides.{nat_tests}
use Rattle.std.proofs.Props.{props}
use Rattle.std.proofs.Math.Logic.{∥∥₁_elim}
use Rattle.std.proofs.lemmas.List.{length-append, length-map, length-take-le}
use Rattle.lk_base.specs.Link.{Settings}
use Rattle.receive_model.specs.Events.{Event, Setting}
use Rattle.event_model.specs.Fed.{Fed}
use Rattle.reassembly.specs.Settings.{IsSettingOf}
use Rattle.reassembly.proofs.Channels.{settings_are_one}
use Rattle.rx_front.specs.Calls.{bytes_at, count_at, fed_more, finished_at, is_open, is_unfinished, nothing_fed}
use Rattle.rx_end.specs.declared.event.RxEvent.{RxEvent}
use Rattle.rx_end.specs.Nexts.{IsNext}
use Rattle.rx_end.specs.Standing.{Stands}
use Rattle.rx_end.specs.States.{State}
use Rattle.rx_end.proofs.Ends.{gives_one}
use Rattle.rx_end.proofs.Pieces.{lanes_are_those}
use Rattle.c_parts.specs.Misuses.{lane_misuse_by, misuse_by, or_else}
use Rattle.live_receiver.specs.Misuses.{feed_misuse, lane_misuse}
use Rattle.live_receiver.specs.Runs.{Runs, counts, flags, is_lent}
use Rattle.c_parts.specs.declared.misuse.Misuse.{Misuse}
use Rattle.c_parts.specs.declared.misuse.Misuse.TheVariants as misuses

-- ---- lists

flags_fed : (i : ℕ) (bytes : List ℕ) (fed : List Fed) → flags (fed_more i bytes fed) ≡ flags fed
flags_fed i bytes [] = refl
flags_fed zero bytes (lane ∷ fed) = refl
flags_fed (suc i) bytes (lane ∷ fed) = ap (λ (bs : List Bool). lane.finished ∷ bs) (flags_fed i bytes fed)

counts_fed : (i : ℕ) (bytes : List ℕ) (fed : List Fed) → counts (fed_more i bytes fed) ≡ set (counts fed) i (get_or (counts fed) i 0 + length bytes)
counts_fed i bytes [] = refl
counts_fed zero bytes (lane ∷ fed) = ap (λ (n : ℕ). n ∷ counts fed) (length-append lane.bytes bytes)
counts_fed (suc i) bytes (lane ∷ fed) = ap (λ (ns : List ℕ). length lane.bytes ∷ ns) (counts_fed i bytes fed)

flags_finished : (i : ℕ) (fed : List Fed) → flags (finished_at i fed) ≡ set (flags fed) i true
flags_finished i [] = refl
flags_finished zero (lane ∷ fed) = refl
flags_finished (suc i) (lane ∷ fed) = ap (λ (bs : List Bool). lane.finished ∷ bs) (flags_finished i fed)

counts_finished : (i : ℕ) (fed : List Fed) → counts (finished_at i fed) ≡ counts fed
counts_finished i [] = refl
counts_finished zero (lane ∷ fed) = refl
counts_finished (suc i) (lane ∷ fed) = ap (λ (ns : List ℕ). length lane.bytes ∷ ns) (counts_finished i fed)

count_of : (i : ℕ) (fed : List Fed) → bytes_at i fed ≡ get_or (counts fed) i 0
count_of i [] = refl
count_of zero (lane ∷ fed) = refl
count_of (suc i) (lane ∷ fed) = count_of i fed

flags_fresh : (n : ℕ) → flags (nothing_fed n) ≡ replicate n false
flags_fresh zero = refl
flags_fresh (suc n) = ap (λ (bs : List Bool). false ∷ bs) (flags_fresh n)

counts_fresh : (n : ℕ) → counts (nothing_fed n) ≡ replicate n 0
counts_fresh zero = refl
counts_fresh (suc n) = ap (λ (ns : List ℕ). 0 ∷ ns) (counts_fresh n)

-- ---- calls

pub count_lane : (r : State) (finished : List Bool) (fed_of : List ℕ) (i : ℕ) → Runs r finished fed_of → count_at i r.front.lanes ≡ get_or fed_of i 0
count_lane r finished fed_of i k =
    let those = lanes_are_those r k.settings k.setting k.fed k.given i k.stands in
    those.2 ∙ count_of i k.fed ∙ ap (λ (ns : List ℕ). get_or ns i 0) k.counts_are

pub runs_fed : (v w : State) (finished : List Bool) (fed_of : List ℕ) (i n room : ℕ) (piece : List ℕ) → Runs v finished fed_of → n ≡ min (length piece) room →
    ((s : Settings) (setting : Setting) (fed : List Fed) (given : List Event) → Stands v s setting fed given → Stands w s setting (fed_more i (take n piece) fed) given) →
    Runs w finished (set fed_of i (get_or fed_of i 0 + n))
runs_fed v w finished fed_of i n room piece k e stands =
    let l = length-take-le n piece (omega (arith, e)) in record {
      settings = k.settings;
      setting = k.setting;
      fed = fed_more i (take n piece) k.fed;
      given = k.given;
      stands = stands k.settings k.setting k.fed k.given k.stands;
      flags_are = flags_fed i (take n piece) k.fed ∙ k.flags_are;
      counts_are = counts_fed i (take n piece) k.fed ∙ ap (λ (m : ℕ). set (counts k.fed) i (get_or (counts k.fed) i 0 + m)) l
          ∙ ap (λ (ns : List ℕ). set ns i (get_or ns i 0 + n)) k.counts_are;
    }

same_default : (xs : List ℕ) (i d e : ℕ) → i < length xs → get_or xs i d ≡ get_or xs i e
same_default [] i d e lt = absurd (omega (arith, lt))
same_default (x ∷ xs) zero d e lt = refl
same_default (x ∷ xs) (suc i) d e lt = same_default xs i d e (omega (arith, lt))

pub runs_fed_at : (v w : State) (finished : List Bool) (fed_of : List ℕ) (i n room before d : ℕ) (piece : List ℕ) → Runs v finished fed_of → n ≡ min (length piece) room →
    ((s : Settings) (setting : Setting) (fed : List Fed) (given : List Event) → Stands v s setting fed given → Stands w s setting (fed_more i (take n piece) fed) given) →
    i < length fed_of → before ≡ get_or fed_of i d → Runs w finished (set fed_of i (before + n))
runs_fed_at v w finished fed_of i n room before d piece k e stands lt is =
    subst (λ (m : ℕ). Runs w finished (set fed_of i (m + n))) (same_default fed_of i 0 d lt ∙ sym is) (runs_fed v w finished fed_of i n room piece k e stands)

pub runs_finished : (v w : State) (finished : List Bool) (fed_of : List ℕ) (i : ℕ) → Runs v finished fed_of →
    ((s : Settings) (setting : Setting) (fed : List Fed) (given : List Event) → Stands v s setting fed given → Stands w s setting (finished_at i fed) given) →
    Runs w (set finished i true) fed_of
runs_finished v w finished fed_of i k stands = record {
  settings = k.settings;
  setting = k.setting;
  fed = finished_at i k.fed;
  given = k.given;
  stands = stands k.settings k.setting k.fed k.given k.stands;
  flags_are = flags_finished i k.fed ∙ ap (λ (bs : List Bool). set bs i true) k.flags_are;
  counts_are = counts_finished i k.fed ∙ k.counts_are;
}

with_given : (w : State) (finished : List Bool) (fed_of : List ℕ) (v : State) (k : Runs v finished fed_of) (given : List Event) → Stands w k.settings k.setting k.fed given → Runs w finished fed_of
with_given w finished fed_of v k given st = record { settings = k.settings; setting = k.setting; fed = k.fed; given = given; stands = st; flags_are = k.flags_are; counts_are = k.counts_are }

pub runs_next : (next : Option RxEvent) (v w : State) (finished : List Bool) (fed_of : List ℕ) → Runs v finished fed_of → IsNext v w next → Runs w finished fed_of
runs_next None v w finished fed_of k call = with_given w finished fed_of v k k.given (call.gives k.settings k.setting k.fed k.given k.stands).1
runs_next (Some event) v w finished fed_of k call = elim (gives_one event w k.settings k.setting k.fed k.given (call.gives k.settings k.setting k.fed k.given k.stands)) [
  | inl ended ↦ with_given w finished fed_of v k k.given ended.4
  | inr one ↦ with_given w finished fed_of v k (k.given ++ one.0 ∷ []) one.2
]

pub runs_first : (r : State) (s : Settings) (channels : List ℕ) (max_packet : ℕ) (wide : Bool) →
    ((setting : Setting) → IsSettingOf setting channels max_packet wide → Stands r s setting (nothing_fed s.lanes) []) → Runs r (replicate s.lanes false) (replicate s.lanes 0)
runs_first r s channels max_packet wide stands =
    let one = settings_are_one channels max_packet wide in record {
      settings = s;
      setting = one.0;
      fed = nothing_fed s.lanes;
      given = [];
      stands = stands one.0 one.1;
      flags_are = flags_fresh s.lanes;
      counts_are = counts_fresh s.lanes;
    }

-- ---- what a session knows of its lanes

unfinished_is : (i : ℕ) (fed : List Fed) → i < length fed → is_unfinished i fed ≡ not (get_or (flags fed) i false)
unfinished_is i [] lt = absurd (omega (arith, lt))
unfinished_is zero (lane ∷ fed) lt = refl
unfinished_is (suc i) (lane ∷ fed) lt = unfinished_is i fed (omega (arith, lt))

pub same_lanes : (r : State) (finished : List Bool) (fed_of : List ℕ) → ∥ Runs r finished fed_of ∥₁ → length r.front.lanes ≡ length finished
same_lanes r finished fed_of h = ∥∥₁_elim h (search props) (λ k.
    let many = (lanes_are_those r k.settings k.setting k.fed k.given 0 k.stands).0 in
    let same = length-map k.fed (λ (lane : Fed). lane.finished) in
    let flagged = ap length k.flags_are in
    omega (arith, many, same, flagged))

pub same_counts : (r : State) (finished : List Bool) (fed_of : List ℕ) → ∥ Runs r finished fed_of ∥₁ → length fed_of ≡ length finished
same_counts r finished fed_of h = ∥∥₁_elim h (search props) (λ k.
    let same = length-map k.fed (λ (lane : Fed). lane.finished) in
    let flagged = ap length k.flags_are in
    let as_many = length-map k.fed (λ (lane : Fed). length lane.bytes) in
    let counted = ap length k.counts_are in
    omega (arith, same, flagged, as_many, counted))

pub open_is : (r : State) (finished : List Bool) (fed_of : List ℕ) (i : ℕ) → ∥ Runs r finished fed_of ∥₁ → i < length finished → is_open i r.front.lanes ≡ not (get_or finished i false)
open_is r finished fed_of i h lt = ∥∥₁_elim h (search props) (λ k.
    let those = lanes_are_those r k.settings k.setting k.fed k.given i k.stands in
    let same = length-map k.fed (λ (lane : Fed). lane.finished) in
    let many = ap length k.flags_are in
    those.1 ∙ unfinished_is i k.fed (omega (arith, lt, same, many)) ∙ ap (λ (bs : List Bool). not (get_or bs i false)) k.flags_are)

pub count_is : (r : State) (finished : List Bool) (fed_of : List ℕ) (i : ℕ) → ∥ Runs r finished fed_of ∥₁ → count_at i r.front.lanes ≡ get_or fed_of i 0
count_is r finished fed_of i h = ∥∥₁_elim h (search props) (λ k. count_lane r finished fed_of i k)

-- ---- misuses

by_test : (there over free : Bool) → (there ≡ true → free ≡ not over) →
    (if there then (if over then Some misuses.Finished else None) else Some misuses.NoLane) ≡ (if there then (if free then None else Some misuses.Finished) else Some misuses.NoLane)
by_test false over free h = refl
by_test true false free h = rw (h refl) refl
by_test true true free h = rw (h refl) refl

pub lane_misuse_is : (r : State) (finished : List Bool) (fed_of : List ℕ) (i : ℕ) → ∥ Runs r finished fed_of ∥₁ → lane_misuse_by finished i ≡ lane_misuse r i
lane_misuse_is r finished fed_of i h =
    subst (λ (n : ℕ). lane_misuse_by finished i ≡ (if nat_lt i n then (if is_open i r.front.lanes then None else Some misuses.Finished) else Some misuses.NoLane)) (sym (same_lanes r finished fed_of h))
    (by_test (nat_lt i (length finished)) (get_or finished i false) (is_open i r.front.lanes) (λ lt. open_is r finished fed_of i h (grind (arith, nat_tests))))

none_by : (there over : Bool) → (if there then (if over then Some misuses.Finished else None) else Some misuses.NoLane) ≡ None → (there ≡ true) × (over ≡ false)
none_by true false h = (refl, refl)
none_by true true h = absurd (true≢false (ap is_some h))
none_by false over h = absurd (true≢false (ap is_some h))

pub lane_takes : (finished : List Bool) (i : ℕ) → lane_misuse_by finished i ≡ None → (i < length finished) × (get_or finished i false ≡ false)
lane_takes finished i h = let both = none_by (nat_lt i (length finished)) (get_or finished i false) h in let lt = both.0 in (grind (arith, nat_tests), both.1)

both_none : (one other : Option Misuse) → or_else one other ≡ None → (one ≡ None) × (other ≡ None)
both_none None other h = (refl, h)
both_none (Some why) other h = absurd (true≢false (ap is_some h))

few_by : (few short : Bool) → (if few && short then None else Some misuses.TooMany) ≡ None → (few ≡ true) × (short ≡ true)
few_by true true h = (refl, refl)
few_by true false h = absurd (true≢false (ap is_some h))
few_by false short h = absurd (true≢false (ap is_some h))

pub piece_is_short : (fed count : ℕ) → misuse_by fed count ≡ None → (fed < 2 ^ 40) × (count < 2 ^ 40)
piece_is_short fed count h = let both = few_by (nat_lt fed (2 ^ 40)) (nat_lt count (2 ^ 40)) h in let few = both.0 in let short = both.1 in (grind (arith, nat_tests), grind (arith, nat_tests))

two_short : (m n : ℕ) → m < 2 ^ 40 → n < 2 ^ 40 → m + n < 2 ^ 57
two_short m n a b = omega (arith, a, b)

two_few : (m n : ℕ) → m < 2 ^ 40 → n < 2 ^ 40 → m + n < 2 ^ 64
two_few m n a b = omega (arith, a, b)

-- a lane that is not misused is open, and takes the piece
pub record IsAllowed (r : State) (finished : List Bool) (fed_of : List ℕ) (i count : ℕ) : Type 0 where
  pub within : i < length finished
  pub counted : i < length fed_of
  pub free : is_open i r.front.lanes ≡ true
  pub few : get_or fed_of i 0 < 2 ^ 40
  pub short : count < 2 ^ 40
  pub fits : count_at i r.front.lanes + count < 2 ^ 57

pub end_is_allowed : (r : State) (finished : List Bool) (fed_of : List ℕ) (i : ℕ) → ∥ Runs r finished fed_of ∥₁ → lane_misuse r i ≡ None → (i < length finished) × (is_open i r.front.lanes ≡ true)
end_is_allowed r finished fed_of i h none =
    let takes = lane_takes finished i (lane_misuse_is r finished fed_of i h ∙ none) in
    (takes.0, open_is r finished fed_of i h takes.0 ∙ ap not takes.1)

pub lane_is_counted : (r : State) (finished : List Bool) (fed_of : List ℕ) (i : ℕ) → ∥ Runs r finished fed_of ∥₁ → lane_misuse r i ≡ None → i < length fed_of
lane_is_counted r finished fed_of i h none =
    let within = (end_is_allowed r finished fed_of i h none).0 in
    let same = same_counts r finished fed_of h in
    omega (arith, within, same)

pub is_allowed : (r : State) (finished : List Bool) (fed_of : List ℕ) (i count : ℕ) → ∥ Runs r finished fed_of ∥₁ → feed_misuse r i count ≡ None → IsAllowed r finished fed_of i count
is_allowed r finished fed_of i count h none =
    let both = both_none (lane_misuse r i) (misuse_by (count_at i r.front.lanes) count) none in
    let end = end_is_allowed r finished fed_of i h both.0 in
    let piece = piece_is_short (count_at i r.front.lanes) count both.1 in
    let within = end.0 in
    let same = same_counts r finished fed_of h in
    let counted = count_is r finished fed_of i h in
    let most : count_at i r.front.lanes < 2 ^ 40 = piece.0 in
    let short : count < 2 ^ 40 = piece.1 in
    record {
      within = within;
      counted = omega (arith, within, same);
      free = end.1;
      few = subst (λ (n : ℕ). n < 2 ^ 40) counted most;
      short = short;
      fits = two_short (count_at i r.front.lanes) count most short;
    }

pub sum_fits : (r : State) (finished : List Bool) (fed_of : List ℕ) (i count before n room d : ℕ) → IsAllowed r finished fed_of i count → before ≡ get_or fed_of i d → n ≡ min count room → before + n < 2 ^ 64
sum_fits r finished fed_of i count before n room d allowed is least =
    let same = same_default fed_of i 0 d allowed.counted in
    let few = allowed.few in
    let short = allowed.short in
    two_few before n (omega (arith, is, same, few)) (omega (arith, least, short))

pub some_misuse_is : (r : State) (finished : List Bool) (fed_of : List ℕ) (i count : ℕ) (why : Misuse) → ∥ Runs r finished fed_of ∥₁ → lane_misuse_by finished i ≡ Some why → Some why ≡ feed_misuse r i count
some_misuse_is r finished fed_of i count why h is =
    ap (λ (one : Option Misuse). or_else one (misuse_by (count_at i r.front.lanes) count)) (sym is ∙ lane_misuse_is r finished fed_of i h)

pub piece_misuse_is : (r : State) (finished : List Bool) (fed_of : List ℕ) (i count before d : ℕ) → ∥ Runs r finished fed_of ∥₁ → lane_misuse_by finished i ≡ None → before ≡ get_or fed_of i d →
    misuse_by before count ≡ feed_misuse r i count
piece_misuse_is r finished fed_of i count before d h none is =
    let takes = lane_takes finished i none in
    let within = takes.0 in
    let same = same_counts r finished fed_of h in
    let counted = same_default fed_of i d 0 (omega (arith, within, same)) in
    ap (λ (n : ℕ). misuse_by n count) (is ∙ counted ∙ sym (count_is r finished fed_of i h)) ∙ ap (λ (one : Option Misuse). or_else one (misuse_by (count_at i r.front.lanes) count)) (sym none ∙ lane_misuse_is r finished fed_of i h)

pub lent_packet : (next : Option RxEvent) (v w : State) → IsNext v w next → is_lent next ≡ true → w.reassembly.lending ≡ true
lent_packet None v w call lent = absurd (true≢false (sym lent))
lent_packet (Some event) v w call lent = call.lends ∙ lent

pub lane_is_there : (r : State) (finished : List Bool) (fed_of : List ℕ) (i : ℕ) → ∥ Runs r finished fed_of ∥₁ → i < length finished → i < length r.front.lanes
lane_is_there r finished fed_of i h lt = let same = same_lanes r finished fed_of h in omega (arith, lt, same)

pub lane_is_absent : (r : State) (finished : List Bool) (fed_of : List ℕ) (i : ℕ) → ∥ Runs r finished fed_of ∥₁ → length finished ≤ i → length r.front.lanes ≤ i
lane_is_absent r finished fed_of i h le = let same = same_lanes r finished fed_of h in omega (arith, le, same)

pub runs_made : (r : State) (s : Settings) (channels : List ℕ) (max_packet : ℕ) (wide : Bool) (finished : List Bool) (fed_of : List ℕ) (lanes : ℕ) →
    ((setting : Setting) → IsSettingOf setting channels max_packet wide → Stands r s setting (nothing_fed s.lanes) []) → lanes ≡ s.lanes → finished ≡ replicate lanes false → fed_of ≡ replicate lanes 0 →
    Runs r finished fed_of
runs_made r s channels max_packet wide finished fed_of lanes stands same none_over none_fed =
    subst (λ (bs : List Bool). Runs r bs fed_of) (sym (none_over ∙ ap (λ (n : ℕ). replicate n false) same))
    (subst (λ (ns : List ℕ). Runs r (replicate s.lanes false) ns) (sym (none_fed ∙ ap (λ (n : ℕ). replicate n 0) same))
    (runs_first r s channels max_packet wide stands))

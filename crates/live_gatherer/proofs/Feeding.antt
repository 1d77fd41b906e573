-- A gatherer that is fed: which lanes are open, and how many bytes were fed of each.
use Rattle.std.proofs.Common.{ℕ, zero, suc, ◌≡◌, refl, sym, ap, ◌∙◌, subst, ◌+◌, ◌<◌, ◌≤◌, Bool, true, false, List, [], ◌∷◌, ◌++◌, length, get_or, set, take, replicate, Option, Some, None, min, arith}
use Rattle.std.specs.Prelude.{◌^◌, ◌&&◌, not, is_some, nat_lt, if◌then◌else◌}
use Rattle.std.proofs.Common.{true≢false}
use Rattle.std.proofs.lemmas.Bool.Decides.{nat_tests}
use Rattle.std.proofs.Props.{props}
use Rattle.std.proofs.Math.Logic.{∥∥₁_elim}
use Rattle.std.proofs.lemmas.List.{length-append, length-map, length-take-le}
use Rattle.lk_base.specs.Link.{Settings}
use Rattle.lk_base.specs.declared.word.Aligned.{Aligned}
use Rattle.lock_model.specs.declared.types.LaneStep.{LaneStep}
use Rattle.event_model.specs.Fed.{Fed}
use Rattle.rx_front.specs.Calls.{bytes_at, count_at, fed_more, finished_at, is_open, is_unfinished, nothing_fed}
use Rattle.rx_front.specs.Lanes.{AllStand}
use Rattle.rx_front.specs.Standing as front
use Rattle.rx_front.specs.Standing.{Progress}
use Rattle.rx_front.specs.States.{Lane}
use Rattle.live_gatherer.specs.declared.misuse.Misuse.{Misuse}
use Rattle.live_gatherer.specs.declared.misuse.Misuse.TheVariants as misuses
use Rattle.live_gatherer.specs.declared.taker.Taker.{Taker}
use Rattle.live_gatherer.specs.declared.types.Gathered.{Gathered}
use Rattle.live_gatherer.specs.Misuses.{feed_misuse, lane_misuse, lane_misuse_by, misuse_by, or_else}
use Rattle.live_gatherer.specs.declared.numbering.Numbering.{Numbering}
use Rattle.live_gatherer.specs.Numbers.{Counts, Numbered}
use Rattle.live_gatherer.specs.Runs.{Runs, counts, flags}
use Rattle.live_gatherer.specs.Taking.{GivesNext, Takes}

-- ---- lists

flags_fed : (i : ℕ) (bytes : List ℕ) (fed : List Fed) → flags (fed_more i bytes fed) ≡ flags fed
flags_fed i bytes [] = refl
flags_fed zero bytes (lane ∷ fed) = refl
flags_fed (suc i) bytes (lane ∷ fed) = ap (λ (bs : List Bool). lane.finished ∷ bs) (flags_fed i bytes fed)

counts_fed : (i : ℕ) (bytes : List ℕ) (fed : List Fed) → counts (fed_more i bytes fed) ≡ set (counts fed) i (get_or (counts fed) i 0 + length bytes)
counts_fed i bytes [] = refl
counts_fed zero bytes (lane ∷ fed) = ap (λ (n : ℕ). n ∷ counts fed) (length-append lane.bytes bytes)
counts_fed (suc i) bytes (lane ∷ fed) = ap (λ (ns : List ℕ). length lane.bytes ∷ ns) (counts_fed i bytes fed)

flags_finished : (i : ℕ) (fed : List Fed) → flags (finished_at i fed) ≡ set (flags fed) i true
flags_finished i [] = refl
flags_finished zero (lane ∷ fed) = refl
flags_finished (suc i) (lane ∷ fed) = ap (λ (bs : List Bool). lane.finished ∷ bs) (flags_finished i fed)

counts_finished : (i : ℕ) (fed : List Fed) → counts (finished_at i fed) ≡ counts fed
counts_finished i [] = refl
counts_finished zero (lane ∷ fed) = refl
counts_finished (suc i) (lane ∷ fed) = ap (λ (ns : List ℕ). length lane.bytes ∷ ns) (counts_finished i fed)

count_of : (i : ℕ) (fed : List Fed) → bytes_at i fed ≡ get_or (counts fed) i 0
count_of i [] = refl
count_of zero (lane ∷ fed) = refl
count_of (suc i) (lane ∷ fed) = count_of i fed

flags_fresh : (n : ℕ) → flags (nothing_fed n) ≡ replicate n false
flags_fresh zero = refl
flags_fresh (suc n) = ap (λ (bs : List Bool). false ∷ bs) (flags_fresh n)

counts_fresh : (n : ℕ) → counts (nothing_fed n) ≡ replicate n 0
counts_fresh zero = refl
counts_fresh (suc n) = ap (λ (ns : List ℕ). 0 ∷ ns) (counts_fresh n)

-- ---- a lane of a front is open if it is not finished, and counts the bytes that were fed of it

lane_is : (i : ℕ) (lanes : List Lane) (s : Settings) (rounds : ℕ) (fed : List Fed) (columns : List (List LaneStep)) → AllStand lanes s rounds fed columns →
    (length lanes ≡ length fed) × (is_open i lanes ≡ is_unfinished i fed) × (count_at i lanes ≡ bytes_at i fed)
lane_is i [] s rounds [] [] st = (refl, refl, refl)
lane_is i [] s rounds [] (column ∷ columns) st = absurd st
lane_is i [] s rounds (lane ∷ fed) columns st = absurd st
lane_is i (v ∷ lanes) s rounds [] columns st = absurd st
lane_is i (v ∷ lanes) s rounds (lane ∷ fed) [] st = absurd st
lane_is zero (v ∷ lanes) s rounds (lane ∷ fed) (column ∷ columns) st =
    (ap suc (lane_is zero lanes s rounds fed columns st.1).0, ap not st.0.finished, st.0.count)
lane_is (suc i) (v ∷ lanes) s rounds (lane ∷ fed) (column ∷ columns) st =
    let rest = lane_is i lanes s rounds fed columns st.1 in
    (ap suc rest.0, rest.1, rest.2)

lanes_are_those : (v : Taker) (s : Settings) (fed : List Fed) (given : List Numbered) (i : ℕ) → Takes v s fed given →
    (length v.front.lanes ≡ length fed) × (is_open i v.front.lanes ≡ is_unfinished i fed) × (count_at i v.front.lanes ≡ bytes_at i fed)
lanes_are_those v s fed given i k = lane_is i v.front.lanes s k.progress.rounds fed k.progress.columns k.front.lanes

-- ---- the front is fed

pub with_front : (v w : Taker) (s : Settings) (fed more : List Fed) (given : List Numbered) → w.link ≡ v.link → w.numbering ≡ v.numbering →
    ((items : List Aligned) (t : Progress) → front.Stands v.front s fed items t → front.Stands w.front s more items t) → Takes v s fed given → Takes w s more given
with_front v w s fed more given link numbering moves k = record {
  items = k.items;
  progress = k.progress;
  front = moves k.items k.progress k.front;
  link = link ∙ k.link;
  counts = subst (λ (n : Numbering). Counts n k.items) (sym numbering) k.counts;
  gave = k.gave;
}

-- ---- calls

count_lane : (v : Taker) (finished : List Bool) (fed_of : List ℕ) (i : ℕ) → Runs v finished fed_of → count_at i v.front.lanes ≡ get_or fed_of i 0
count_lane v finished fed_of i k =
    let those = lanes_are_those v k.settings k.fed k.given i k.takes in
    those.2 ∙ count_of i k.fed ∙ ap (λ (ns : List ℕ). get_or ns i 0) k.counts_are

runs_fed : (v w : Taker) (finished : List Bool) (fed_of : List ℕ) (i n room : ℕ) (piece : List ℕ) → Runs v finished fed_of → n ≡ min (length piece) room →
    ((s : Settings) (fed : List Fed) (given : List Numbered) → Takes v s fed given → Takes w s (fed_more i (take n piece) fed) given) →
    Runs w finished (set fed_of i (get_or fed_of i 0 + n))
runs_fed v w finished fed_of i n room piece k e takes =
    let l = length-take-le n piece (omega (arith, e)) in record {
      settings = k.settings;
      fed = fed_more i (take n piece) k.fed;
      given = k.given;
      takes = takes k.settings k.fed k.given k.takes;
      flags_are = flags_fed i (take n piece) k.fed ∙ k.flags_are;
      counts_are = counts_fed i (take n piece) k.fed ∙ ap (λ (m : ℕ). set (counts k.fed) i (get_or (counts k.fed) i 0 + m)) l
          ∙ ap (λ (ns : List ℕ). set ns i (get_or ns i 0 + n)) k.counts_are;
    }

same_default : (xs : List ℕ) (i d e : ℕ) → i < length xs → get_or xs i d ≡ get_or xs i e
same_default [] i d e lt = absurd (omega (arith, lt))
same_default (x ∷ xs) zero d e lt = refl
same_default (x ∷ xs) (suc i) d e lt = same_default xs i d e (omega (arith, lt))

pub runs_fed_at : (v w : Taker) (finished : List Bool) (fed_of : List ℕ) (i n room before d : ℕ) (piece : List ℕ) → Runs v finished fed_of → n ≡ min (length piece) room →
    ((s : Settings) (fed : List Fed) (given : List Numbered) → Takes v s fed given → Takes w s (fed_more i (take n piece) fed) given) →
    i < length fed_of → before ≡ get_or fed_of i d → Runs w finished (set fed_of i (before + n))
runs_fed_at v w finished fed_of i n room before d piece k e takes lt is =
    subst (λ (m : ℕ). Runs w finished (set fed_of i (m + n))) (same_default fed_of i 0 d lt ∙ sym is) (runs_fed v w finished fed_of i n room piece k e takes)

pub runs_finished : (v w : Taker) (finished : List Bool) (fed_of : List ℕ) (i : ℕ) → Runs v finished fed_of →
    ((s : Settings) (fed : List Fed) (given : List Numbered) → Takes v s fed given → Takes w s (finished_at i fed) given) →
    Runs w (set finished i true) fed_of
runs_finished v w finished fed_of i k takes = record {
  settings = k.settings;
  fed = finished_at i k.fed;
  given = k.given;
  takes = takes k.settings k.fed k.given k.takes;
  flags_are = flags_finished i k.fed ∙ ap (λ (bs : List Bool). set bs i true) k.flags_are;
  counts_are = counts_finished i k.fed ∙ k.counts_are;
}

pub has_run : (v : Taker) (finished : List Bool) (fed_of : List ℕ) → Runs v finished fed_of → (s : Settings) × (fed : List Fed) × (given : List Numbered) × Takes v s fed given
has_run v finished fed_of k = (k.settings, k.fed, k.given, k.takes)

with_given : (w : Taker) (finished : List Bool) (fed_of : List ℕ) (v : Taker) (k : Runs v finished fed_of) (given : List Numbered) → Takes w k.settings k.fed given → Runs w finished fed_of
with_given w finished fed_of v k given takes = record { settings = k.settings; fed = k.fed; given = given; takes = takes; flags_are = k.flags_are; counts_are = k.counts_are }

pub runs_next : (answer : Option Gathered) (v w : Taker) (finished : List Bool) (fed_of : List ℕ) → Runs v finished fed_of →
    ((s : Settings) (fed : List Fed) (given : List Numbered) → Takes v s fed given → GivesNext answer w s fed given) → Runs w finished fed_of
runs_next None v w finished fed_of k gives = with_given w finished fed_of v k k.given (gives k.settings k.fed k.given k.takes).0
runs_next (Some answer) v w finished fed_of k gives = let g = gives k.settings k.fed k.given k.takes in with_given w finished fed_of v k (k.given ++ g.next ∷ []) g.takes

pub runs_made : (v : Taker) (s : Settings) (finished : List Bool) (fed_of : List ℕ) (lanes : ℕ) → Takes v s (nothing_fed s.lanes) [] → lanes ≡ s.lanes → finished ≡ replicate lanes false → fed_of ≡ replicate lanes 0 →
    Runs v finished fed_of
runs_made v s finished fed_of lanes takes same none_over none_fed = record {
  settings = s;
  fed = nothing_fed s.lanes;
  given = [];
  takes = takes;
  flags_are = flags_fresh s.lanes ∙ sym (none_over ∙ ap (λ (n : ℕ). replicate n false) same);
  counts_are = counts_fresh s.lanes ∙ sym (none_fed ∙ ap (λ (n : ℕ). replicate n 0) same);
}

-- ---- what is known of the lanes

unfinished_is : (i : ℕ) (fed : List Fed) → i < length fed → is_unfinished i fed ≡ not (get_or (flags fed) i false)
unfinished_is i [] lt = absurd (omega (arith, lt))
unfinished_is zero (lane ∷ fed) lt = refl
unfinished_is (suc i) (lane ∷ fed) lt = unfinished_is i fed (omega (arith, lt))

same_lanes : (v : Taker) (finished : List Bool) (fed_of : List ℕ) → ∥ Runs v finished fed_of ∥₁ → length v.front.lanes ≡ length finished
same_lanes v finished fed_of h = ∥∥₁_elim h (search props) (λ k.
    let many = (lanes_are_those v k.settings k.fed k.given 0 k.takes).0 in
    let same = length-map k.fed (λ (lane : Fed). lane.finished) in
    let flagged = ap length k.flags_are in
    omega (arith, many, same, flagged))

same_counts : (v : Taker) (finished : List Bool) (fed_of : List ℕ) → ∥ Runs v finished fed_of ∥₁ → length fed_of ≡ length finished
same_counts v finished fed_of h = ∥∥₁_elim h (search props) (λ k.
    let same = length-map k.fed (λ (lane : Fed). lane.finished) in
    let flagged = ap length k.flags_are in
    let as_many = length-map k.fed (λ (lane : Fed). length lane.bytes) in
    let counted = ap length k.counts_are in
    omega (arith, same, flagged, as_many, counted))

open_is : (v : Taker) (finished : List Bool) (fed_of : List ℕ) (i : ℕ) → ∥ Runs v finished fed_of ∥₁ → i < length finished → is_open i v.front.lanes ≡ not (get_or finished i false)
open_is v finished fed_of i h lt = ∥∥₁_elim h (search props) (λ k.
    let those = lanes_are_those v k.settings k.fed k.given i k.takes in
    let same = length-map k.fed (λ (lane : Fed). lane.finished) in
    let many = ap length k.flags_are in
    those.1 ∙ unfinished_is i k.fed (omega (arith, lt, same, many)) ∙ ap (λ (bs : List Bool). not (get_or bs i false)) k.flags_are)

count_is : (v : Taker) (finished : List Bool) (fed_of : List ℕ) (i : ℕ) → ∥ Runs v finished fed_of ∥₁ → count_at i v.front.lanes ≡ get_or fed_of i 0
count_is v finished fed_of i h = ∥∥₁_elim h (search props) (λ k. count_lane v finished fed_of i k)

-- ---- misuses

by_test : (there over free : Bool) → (there ≡ true → free ≡ not over) →
    (if there then (if over then Some misuses.Finished else None) else Some misuses.NoLane) ≡ (if there then (if free then None else Some misuses.Finished) else Some misuses.NoLane)
by_test false over free h = refl
by_test true false free h = rw (h refl) refl
by_test true true free h = rw (h refl) refl

pub lane_misuse_is : (v : Taker) (finished : List Bool) (fed_of : List ℕ) (i : ℕ) → ∥ Runs v finished fed_of ∥₁ → lane_misuse_by finished i ≡ lane_misuse v.front i
lane_misuse_is v finished fed_of i h =
    subst (λ (n : ℕ). lane_misuse_by finished i ≡ (if nat_lt i n then (if is_open i v.front.lanes then None else Some misuses.Finished) else Some misuses.NoLane)) (sym (same_lanes v finished fed_of h))
    (by_test (nat_lt i (length finished)) (get_or finished i false) (is_open i v.front.lanes) (λ lt. open_is v finished fed_of i h (grind (arith, nat_tests))))

none_by : (there over : Bool) → (if there then (if over then Some misuses.Finished else None) else Some misuses.NoLane) ≡ None → (there ≡ true) × (over ≡ false)
none_by true false h = (refl, refl)
none_by true true h = absurd (true≢false (ap is_some h))
none_by false over h = absurd (true≢false (ap is_some h))

lane_takes : (finished : List Bool) (i : ℕ) → lane_misuse_by finished i ≡ None → (i < length finished) × (get_or finished i false ≡ false)
lane_takes finished i h = let both = none_by (nat_lt i (length finished)) (get_or finished i false) h in let lt = both.0 in (grind (arith, nat_tests), both.1)

both_none : (one other : Option Misuse) → or_else one other ≡ None → (one ≡ None) × (other ≡ None)
both_none None other h = (refl, h)
both_none (Some why) other h = absurd (true≢false (ap is_some h))

few_by : (few short : Bool) → (if few && short then None else Some misuses.TooMany) ≡ None → (few ≡ true) × (short ≡ true)
few_by true true h = (refl, refl)
few_by true false h = absurd (true≢false (ap is_some h))
few_by false short h = absurd (true≢false (ap is_some h))

piece_is_short : (fed count : ℕ) → misuse_by fed count ≡ None → (fed < 2 ^ 40) × (count < 2 ^ 40)
piece_is_short fed count h = let both = few_by (nat_lt fed (2 ^ 40)) (nat_lt count (2 ^ 40)) h in let few = both.0 in let short = both.1 in (grind (arith, nat_tests), grind (arith, nat_tests))

two_short : (m n : ℕ) → m < 2 ^ 40 → n < 2 ^ 40 → m + n < 2 ^ 57
two_short m n a b = omega (arith, a, b)

two_few : (m n : ℕ) → m < 2 ^ 40 → n < 2 ^ 40 → m + n < 2 ^ 64
two_few m n a b = omega (arith, a, b)

-- a lane that is not misused is open, and takes the piece
pub record IsAllowed (v : Taker) (finished : List Bool) (fed_of : List ℕ) (i count : ℕ) : Type 0 where
  pub within : i < length finished
  pub counted : i < length fed_of
  pub free : is_open i v.front.lanes ≡ true
  pub few : get_or fed_of i 0 < 2 ^ 40
  pub short : count < 2 ^ 40
  pub fits : count_at i v.front.lanes + count < 2 ^ 57

pub end_is_allowed : (v : Taker) (finished : List Bool) (fed_of : List ℕ) (i : ℕ) → ∥ Runs v finished fed_of ∥₁ → lane_misuse v.front i ≡ None → (i < length finished) × (is_open i v.front.lanes ≡ true)
end_is_allowed v finished fed_of i h none =
    let takes = lane_takes finished i (lane_misuse_is v finished fed_of i h ∙ none) in
    (takes.0, open_is v finished fed_of i h takes.0 ∙ ap not takes.1)

pub lane_is_counted : (v : Taker) (finished : List Bool) (fed_of : List ℕ) (i : ℕ) → ∥ Runs v finished fed_of ∥₁ → lane_misuse v.front i ≡ None → i < length fed_of
lane_is_counted v finished fed_of i h none =
    let within = (end_is_allowed v finished fed_of i h none).0 in
    let same = same_counts v finished fed_of h in
    omega (arith, within, same)

pub is_allowed : (v : Taker) (finished : List Bool) (fed_of : List ℕ) (i count : ℕ) → ∥ Runs v finished fed_of ∥₁ → feed_misuse v.front i count ≡ None → IsAllowed v finished fed_of i count
is_allowed v finished fed_of i count h none =
    let both = both_none (lane_misuse v.front i) (misuse_by (count_at i v.front.lanes) count) none in
    let end = end_is_allowed v finished fed_of i h both.0 in
    let piece = piece_is_short (count_at i v.front.lanes) count both.1 in
    let within = end.0 in
    let same = same_counts v finished fed_of h in
    let counted = count_is v finished fed_of i h in
    let most : count_at i v.front.lanes < 2 ^ 40 = piece.0 in
    let short : count < 2 ^ 40 = piece.1 in
    record {
      within = within;
      counted = omega (arith, within, same);
      free = end.1;
      few = subst (λ (n : ℕ). n < 2 ^ 40) counted most;
      short = short;
      fits = two_short (count_at i v.front.lanes) count most short;
    }

pub sum_fits : (v : Taker) (finished : List Bool) (fed_of : List ℕ) (i count before n room d : ℕ) → IsAllowed v finished fed_of i count → before ≡ get_or fed_of i d → n ≡ min count room → before + n < 2 ^ 64
sum_fits v finished fed_of i count before n room d allowed is least =
    let same = same_default fed_of i 0 d allowed.counted in
    let few = allowed.few in
    let short = allowed.short in
    two_few before n (omega (arith, is, same, few)) (omega (arith, least, short))

pub piece_misuse_is : (v : Taker) (finished : List Bool) (fed_of : List ℕ) (i count before d : ℕ) → ∥ Runs v finished fed_of ∥₁ → lane_misuse_by finished i ≡ None → before ≡ get_or fed_of i d →
    misuse_by before count ≡ feed_misuse v.front i count
piece_misuse_is v finished fed_of i count before d h none is =
    let takes = lane_takes finished i none in
    let within = takes.0 in
    let same = same_counts v finished fed_of h in
    let counted = same_default fed_of i d 0 (omega (arith, within, same)) in
    ap (λ (n : ℕ). misuse_by n count) (is ∙ counted ∙ sym (count_is v finished fed_of i h)) ∙ ap (λ (one : Option Misuse). or_else one (misuse_by (count_at i v.front.lanes) count)) (sym none ∙ lane_misuse_is v finished fed_of i h)

pub lane_is_there : (v : Taker) (finished : List Bool) (fed_of : List ℕ) (i : ℕ) → ∥ Runs v finished fed_of ∥₁ → i < length finished → i < length v.front.lanes
lane_is_there v finished fed_of i h lt = let same = same_lanes v finished fed_of h in omega (arith, lt, same)

pub lane_is_absent : (v : Taker) (finished : List Bool) (fed_of : List ℕ) (i : ℕ) → ∥ Runs v finished fed_of ∥₁ → length finished ≤ i → length v.front.lanes ≤ i
lane_is_absent v finished fed_of i h le = let same = same_lanes v finished fed_of h in omega (arith, le, same)

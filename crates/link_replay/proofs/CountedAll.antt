-- What a counter has counted after the last bit of every lane.
use Rattle.std.proofs.Common.{ℕ, ◌≡◌, refl, sym, ap, ap₂, ◌∙◌, subst, ◌*◌, ◌<◌, true, List, [], ◌∷◌, length, map, arith}
use Rattle.std.specs.Prelude.{nat_lt}
use Rattle.std.proofs.lemmas.Bool.{lt-ltb}
use Rattle.std.proofs.lemmas.List.{length-map, take_all}
use Rattle.lk_base.specs.Checksum.{bits_of_bytes}
use Rattle.lk_base.specs.declared.word.Aligned.{Aligned}
use Rattle.lk_base.specs.Link.{Settings}
use Rattle.epoch_model.specs.GroupLaw.{HasAttempts}
use Rattle.epoch_model.specs.SoFar.{AreKnown, LaneSoFar}
use Rattle.event_model.specs.Fed.{first_bits, longest, whole}
use Rattle.event_model.specs.Given.{bits_in, lanes_at}
use Rattle.event_model.proofs.Clocks.{length-bits}
use Rattle.link_laws.specs.Accidents.{AreAccidents}
use Rattle.report_model.specs.declared.counts.Accidents.{Accidents}
use Rattle.link_laws.specs.Received.{bits_of_lanes, whole_lane}
use Rattle.rx_front.specs.Standing.{locks_at}
use Rattle.rx_front.specs.States.{State}
use Rattle.link_replay.specs.Counting.{Counter, HasCountedAll, given_to}
use Rattle.link_replay.specs.Lanes.{strange_sum}
use Rattle.link_replay.specs.Standing.{Watches}
use Rattle.link_replay.proofs.EndOfLanes.{AllDeclared, end_is_counted, same_counts}
use Rattle.lk_base.proofs.Lists.{head_same, tail_same}
use Rattle.link_replay.proofs.OfFront.{lanes_declared}

-- the lanes at the clock are the whole lanes
record AtTheEnd (s : Settings) (clock : ℕ) (lanes : List (List ℕ)) (all : List (HasAttempts s.metaframe)) : Type 0 where
  bits : bits_in s.metaframe all ≡ map (first_bits clock) (map whole lanes)
  same : lanes_at s clock (map whole lanes) all ≡ map (whole_lane s) all

all_there : (s : Settings) (clock : ℕ) (lanes : List (List ℕ)) (all : List (HasAttempts s.metaframe)) → bits_of_lanes all ≡ map bits_of_bytes lanes → 8 * longest (map whole lanes) < clock → AtTheEnd s clock lanes all
all_there s clock [] [] e o = record { bits = refl; same = refl }
all_there s clock [] (x ∷ all) e o = absurd (let l = ap length e in omega (arith, l))
all_there s clock (bytes ∷ lanes) [] e o = absurd (let l = ap length e in omega (arith, l))
all_there s clock (bytes ∷ lanes) (x ∷ all) e o =
    let b = length-bits bytes in
    let own : first_bits clock (whole bytes) ≡ bits_of_bytes bytes = take_all clock (bits_of_bytes bytes) (omega (arith, b, o)) in
    let over : nat_lt (length (bits_of_bytes bytes)) clock ≡ true = lt-ltb (length (bits_of_bytes bytes)) clock (omega (arith, b, o)) in
    let rest = all_there s clock lanes all (tail_same x.bits (bits_of_bytes bytes) (bits_of_lanes all) (map bits_of_bytes lanes) e) (omega (arith, o)) in
    record {
      bits = ap₂ (λ y ys. y ∷ ys) (head_same x.bits (bits_of_bytes bytes) (bits_of_lanes all) (map bits_of_bytes lanes) e ∙ sym own) rest.bits;
      same = ap₂ (λ (y : LaneSoFar) (ys : List LaneSoFar). y ∷ ys) (ap (λ o. record { tracks = (whole_lane s x).tracks; over = o }) over) rest.same;
    }

pub counted_all : (c : Counter) (f : State) (s : Settings) (lanes : List (List ℕ)) → HasCountedAll c f s lanes → (a : Accidents) → a.locks ≡ strange_sum c.watch.lanes → a.groups ≡ c.watch.groups → a.stretches ≡ c.watch.stretches →
    AreAccidents (given_to c) (map bits_of_bytes lanes) a
counted_all c f s lanes saw a l g x =
    let v = c.watch in
    let t = saw.t in
    let st = saw.knows.stands in
    let there = all_there s t.clock lanes saw.seen.all saw.seen.bits saw.past in
    let n = length-map lanes whole in
    let m = length-map lanes bits_of_bytes in
    let count = st.lane_count in
    let bits = map bits_of_bytes lanes in
    let Counted : Settings → Type 0 = λ s. (all : List (HasAttempts s.metaframe)) → Watches v c.words (map (whole_lane s) all) (λ k. locks_at k t) saw.items → bits_of_lanes all ≡ bits → length bits ≡ s.lanes →
    AllDeclared s (λ k. locks_at k t) 0 all → ((known : List Aligned) → AreKnown s (map (whole_lane s) all) known → known ≡ saw.items) →
    AreAccidents (given_to c) bits (record { locks = strange_sum v.lanes; groups = v.groups; stretches = v.stretches }) in
    subst (λ (b : Accidents). AreAccidents (given_to c) bits b) (same_counts (strange_sum v.lanes) a.locks v.groups a.groups v.stretches a.stretches (sym l) (sym g) (sym x))
    (subst Counted saw.knows.kept.settings (λ all wa b e de gave. end_is_counted v c.words all (λ k. locks_at k t) saw.items bits wa b e de gave) saw.seen.all saw.seen.watches saw.seen.bits
    (omega (arith, n, m, count)) (lanes_declared f s lanes saw.items t saw.seen.all saw.seen.bits st saw.past)
    (λ known are. saw.all known (record { received = saw.seen.all; bits = there.bits; are = subst (λ (ls : List LaneSoFar). AreKnown s ls known) (sym there.same) are })))

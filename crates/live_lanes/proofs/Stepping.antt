-- Lanes after one word more of each, at their end, and after bytes of one are taken.
use Rattle.std.proofs.Common.{ℕ, ◌≡◌, refl, sym, ap, ◌∙◌, subst, ◌+◌, ◌*◌, ◌%◌, ◌<◌, ◌==◌, Bool, true, false, List, [], ◌∷◌, ◌++◌, length, get_or, set, map, take, drop, arith, inl, inr, append_assoc, append-nil, length-append}
use Rattle.std.proofs.Math.Nat.{mod-add-mod, zero-mod, zero-mul}
use Rattle.std.proofs.Math.Seq.{take-append_seam}
use Rattle.std.proofs.lemmas.Bool.{cases_lt, cond-false, cond-true, eq-eqb, false≢true}
use Rattle.std.proofs.lemmas.Bool.Decides.{eqb_tells}
use Rattle.std.proofs.lemmas.List.{get_or-set_other, get_or-set_same, get_or_past, length-map, length-set, map-set, take-append-drop}
use Rattle.lk_base.specs.declared.word.Word.{Word}
use Rattle.lk_base.specs.declared.word.Word.TheVariants.{Data}
use Rattle.lk_base.specs.Link.{Settings, IsLink}
use Rattle.lane_model.specs.Framing.{payloads}
use Rattle.lane_model.specs.Striping.{lane_payload}
use Rattle.metaframe.specs.Writing.{payload_place}
use Rattle.tx_end.specs.Lanes.{Carries}
use Rattle.tx_end.proofs.Groups.{no_payload}
use Rattle.tx_end.proofs.LanePlaces.{place_at}
use Rattle.live_lanes.specs.States.{Lane, Lanes, lanes_of}
use Rattle.live_lanes.specs.Lanes.{AreEach, AreGone, AreKept, AreLonger, IsFresh, MakesEnd, MakesFraming, MakesPayload, MakesWord, waiting_on}
use Rattle.live_lanes.specs.Standing.{IsSent, Progress, Stands, begun, framed, progress, took, with_row}
use Rattle.live_lanes.proofs.Places.{given_count, lane_of, row_more, waiting_is}

-- the next place in a metaframe
next_is : (link s : Settings) (place next columns : ℕ) → link ≡ s → place ≡ columns % s.metaframe → next ≡ (place + 1) % link.metaframe → next ≡ (columns + 1) % s.metaframe
next_is link s place next columns same at next_at =
    next_at ∙ ap (λ n. (n + 1) % link.metaframe) at ∙ ap (λ (t : Settings). (columns % s.metaframe + 1) % t.metaframe) same ∙ mod-add-mod columns s.metaframe 1

module _ (link : Settings) (old new : List Lane) (place next : ℕ) (p : Progress) (k : Stands (lanes_of link old place false) p) where
  abbrev s : Settings
  s = p.settings

  abbrev own : ℕ → List Word
  own i = lane_payload s.lanes p.payload i

  abbrev lane : Lane
  lane = lane_of (lanes_of link old place false) p k

  there : (i : ℕ) → i < s.lanes → i < length old
  there i h = omega (arith, h, k.count)

  lane_zero : 0 < s.lanes
  lane_zero = omega (arith, k.limits.lanes.0)

  before : (i : ℕ) → i < s.lanes → Carries (get_or old i lane).writer s i (own i) p.columns (p.taken i ++ (get_or old i lane).waiting)
  before i h = (k.each i lane h).0

  -- each lane made a framing word
  pub framed_stands : AreEach (λ i. MakesFraming) old new → next ≡ (place + 1) % link.metaframe → Stands (lanes_of link new next false) (framed p)
  framed_stands made at =
      let after : (i : ℕ) (e : Lane) → i < s.lanes → Carries (get_or new i e).writer s i (own i) (p.columns + 1) (p.taken i ++ (get_or new i e).waiting) =
      λ i e h. (made.each i lane e (there i h)).carries s i (own i) p.columns (p.taken i) (before i h) in
      let same : payload_place s p.columns ≡ payload_place s (p.columns + 1) =
      sym (given_count (get_or old 0 lane).writer s 0 p.columns (own 0) (p.taken 0 ++ (get_or old 0 lane).waiting) (before 0 lane_zero))
      ∙ given_count (get_or new 0 lane).writer s 0 (p.columns + 1) (own 0) (p.taken 0 ++ (get_or new 0 lane).waiting) (after 0 lane lane_zero) in
      record {
        limits = k.limits;
        link = k.link;
        count = made.same ∙ k.count;
        place = next_is link s place next p.columns k.link k.place at;
        rows = k.rows ∙ ap (λ n. n * s.lanes) same;
        whole = λ e. absurd (false≢true e);
        each = λ i e h. (after i e h, (made.each i lane e (there i h)).few);
      }

  -- each lane made its word of a row
  pub put_stands : (words : List Word) → length words ≡ length old → AreEach (λ i. MakesPayload (get_or words i (Data 0))) old new → next ≡ (place + 1) % link.metaframe → Stands (lanes_of link new next false) (with_row words p)
  put_stands words count made at =
      let one : length words ≡ s.lanes = count ∙ k.count in
      let after : (i : ℕ) (e : Lane) → i < s.lanes → Carries (get_or new i e).writer s i (own i ++ get_or words i (Data 0) ∷ []) (p.columns + 1) (p.taken i ++ (get_or new i e).waiting) =
      λ i e h. (made.each i lane e (there i h)).carries s i (own i) p.columns (p.taken i) (before i h) in
      let was = given_count (get_or old 0 lane).writer s 0 p.columns (own 0) (p.taken 0 ++ (get_or old 0 lane).waiting) (before 0 lane_zero) in
      let is = given_count (get_or new 0 lane).writer s 0 (p.columns + 1) (own 0 ++ get_or words 0 (Data 0) ∷ []) (p.taken 0 ++ (get_or new 0 lane).waiting) (after 0 lane lane_zero) in
      let more : payload_place s (p.columns + 1) ≡ payload_place s p.columns + 1 = sym is ∙ length-append (own 0) (get_or words 0 (Data 0) ∷ []) ∙ ap (λ n. n + 1) was in
      let regroup : payload_place s p.columns * s.lanes + s.lanes ≡ (payload_place s p.columns + 1) * s.lanes = omega arith in
      record {
        limits = k.limits;
        link = k.link;
        count = made.same ∙ k.count;
        place = next_is link s place next p.columns k.link k.place at;
        rows = length-append p.payload words ∙ ap (λ n. n + length words) k.rows ∙ ap (λ n. payload_place s p.columns * s.lanes + n) one ∙ regroup ∙ ap (λ n. n * s.lanes) (sym more);
        whole = λ e. absurd (false≢true e);
        each = λ i e h. (
          subst (λ (g : List Word). Carries (get_or new i e).writer s i g (p.columns + 1) (p.taken i ++ (get_or new i e).waiting))
              (sym (row_more s.lanes (payload_place s p.columns) i p.payload words h k.rows one)) (after i e h),
          (made.each i lane e (there i h)).few,
        );
      }

  -- each lane made its last byte
  pub end_stands : place ≡ 0 → AreEach (λ i. MakesEnd) old new → Stands (lanes_of link new place true) p
  end_stands whole made = record {
    limits = k.limits;
    link = k.link;
    count = made.same ∙ k.count;
    place = k.place;
    rows = k.rows;
    whole = λ e. whole;
    each = λ i e h. (made.each i lane e (there i h)).all s i (own i) p.columns (p.taken i) (before i h);
  }

-- the same of lanes that have not ended
pub framed_here : (link : Settings) (old new : List Lane) (place next : ℕ) (ended : Bool) (p : Progress) → ended ≡ false → Stands (lanes_of link old place ended) p →
    AreEach (λ i. MakesFraming) old new → next ≡ (place + 1) % link.metaframe → Stands (lanes_of link new next ended) (framed p)
framed_here link old new place next ended p going k made at =
    subst (λ e. Stands (lanes_of link new next e) (framed p)) (sym going) (framed_stands link old new place next p (subst (λ e. Stands (lanes_of link old place e) p) going k) made at)

pub put_here : (link : Settings) (old new : List Lane) (place next : ℕ) (ended : Bool) (p : Progress) (words : List Word) → ended ≡ false → Stands (lanes_of link old place ended) p →
    length words ≡ length old → AreEach (λ i. MakesPayload (get_or words i (Data 0))) old new → next ≡ (place + 1) % link.metaframe → Stands (lanes_of link new next ended) (with_row words p)
put_here link old new place next ended p words going k count made at =
    subst (λ e. Stands (lanes_of link new next e) (with_row words p)) (sym going) (put_stands link old new place next p (subst (λ e. Stands (lanes_of link old place e) p) going k) words count made at)

pub end_here : (link : Settings) (old new : List Lane) (place : ℕ) (ended : Bool) (p : Progress) → ended ≡ false → Stands (lanes_of link old place ended) p →
    place ≡ 0 → AreEach (λ i. MakesEnd) old new → Stands (lanes_of link new place true) p
end_here link old new place ended p going k whole made = end_stands link old new place place p (subst (λ e. Stands (lanes_of link old place e) p) going k) whole made

-- before their first words
pub fresh_stands : (link : Settings) (lanes : List Lane) → IsLink link → length lanes ≡ link.lanes → ((i : ℕ) (d : Lane) → i < link.lanes → IsFresh link i (get_or lanes i d)) → Stands (lanes_of link lanes 0 false) (begun link)
fresh_stands link lanes limits count fresh =
    let none : payload_place link 0 ≡ 0 = ap (payload_place link) (sym (zero-mul link.metaframe)) ∙ place_at link 0 limits ∙ zero-mul (payloads link) in
    record {
      limits = limits;
      link = refl;
      count = count;
      place = sym (zero-mod link.metaframe);
      rows = sym (ap (λ n. n * link.lanes) none ∙ zero-mul link.lanes);
      whole = λ e. refl;
      each = λ i d h.
          let f = fresh i d h in (
            subst (λ (g : List Word). Carries (get_or lanes i d).writer link i g 0 (get_or lanes i d).waiting) (sym (no_payload link.lanes i h))
                (subst (λ (b : List ℕ). Carries (get_or lanes i d).writer link i [] 0 b) (sym f.2) f.0),
            f.1,
          );
    }

-- on each lane more bytes wait
pub are_longer : (link : Settings) (old new : List Lane) (place next : ℕ) (ended now : Bool) (now_given : ℕ → List Word → List Word) → AreEach (λ i. MakesWord (now_given i)) old new → AreLonger (lanes_of link old place ended) (lanes_of link new next now)
are_longer link [] new place next ended now now_given made i h = absurd (omega (arith, h))
are_longer link (l ∷ old) new place next ended now now_given made i h =
    rw (waiting_is (lanes_of link (l ∷ old) place ended) i l h, waiting_is (lanes_of link new next now) i l (let e = made.same in omega (arith, e, h))) (made.each i l l h).longer

-- after their ends no fewer wait
pub are_kept : (link : Settings) (old new : List Lane) (place next : ℕ) (ended now : Bool) → AreEach (λ i. MakesEnd) old new → AreKept (lanes_of link old place ended) (lanes_of link new next now)
are_kept link [] [] place next ended now made i = omega arith
are_kept link [] (m ∷ new) place next ended now made i = absurd (let e = made.same in omega (arith, e))
are_kept link (l ∷ old) new place next ended now made i = elim (cases_lt i (length (l ∷ old))) [
  | inl h ↦ rw (waiting_is (lanes_of link (l ∷ old) place ended) i l h, waiting_is (lanes_of link new next now) i l (let e = made.same in omega (arith, e, h))) (made.each i l l h).kept
  | inr past ↦
      let none : waiting_on i (lanes_of link (l ∷ old) place ended) ≡ [] = get_or_past (map (λ (m : Lane). m.waiting) (l ∷ old)) i [] (let e = length-map (l ∷ old) (λ (m : Lane). m.waiting) in omega (arith, e, past)) in
      rw none (omega arith)
]

-- lanes that were lent as a slice, in their vector
pub written : (n : ℕ) (later old : List Lane) → length later ≡ n → take n (later ++ drop (length later) old) ≡ later
written n later old e = ap (λ m. take m (later ++ drop (length later) old)) (sym e) ∙ take-append_seam later (drop (length later) old)

-- ---- bytes that are taken

-- a lane whose bytes, taken and waiting, are those of before
sent_moved : (ended : Bool) (p : Progress) (taken : ℕ → List ℕ) (i : ℕ) (l m : Lane) → m.writer ≡ l.writer → taken i ++ m.waiting ≡ p.taken i ++ l.waiting → IsSent ended p i l → IsSent ended (progress p.settings p.payload p.columns taken) i m
sent_moved false p taken i l m writer bytes k = rw (writer, bytes) k
sent_moved true p taken i l m writer bytes k = rw bytes k

abbrev pub lane_after : ℕ → Lane → Lane
lane_after n l = record { writer = l.writer; waiting = drop n l.waiting }

regroup : (taken waiting : List ℕ) (n : ℕ) → (taken ++ take n waiting) ++ drop n waiting ≡ taken ++ waiting
regroup taken waiting n = append_assoc taken (take n waiting) (drop n waiting) ∙ ap (λ b. taken ++ b) (take-append-drop n waiting)

-- the bytes of a lane more are taken, and the others' stay
taken_here : (p : Progress) (lane : ℕ) (bytes : List ℕ) → (took lane bytes p).taken lane ≡ p.taken lane ++ bytes
taken_here p lane bytes = cond-true (lane == lane) (p.taken lane ++ bytes) (p.taken lane) (eq-eqb lane lane refl)

taken_there : (p : Progress) (lane i : ℕ) (bytes : List ℕ) → (i == lane) ≡ false → (took lane bytes p).taken i ≡ p.taken i
taken_there p lane i bytes e = cond-false (i == lane) (p.taken i ++ bytes) (p.taken i) e

module _ (link : Settings) (old : List Lane) (place : ℕ) (ended : Bool) (lane n : ℕ) (d : Lane) where
  abbrev was : Lane
  was = get_or old lane d

  abbrev is : Lane
  is = lane_after n was

  pub took_stands : (p : Progress) → lane < length old → Stands (lanes_of link old place ended) p → Stands (lanes_of link (set old lane (lane_after n (get_or old lane d))) place ended) (took lane (take n (get_or old lane d).waiting) p)
  took_stands p here k = record {
    limits = k.limits;
    link = k.link;
    count = length-set old lane is ∙ k.count;
    place = k.place;
    rows = k.rows;
    whole = k.whole;
    each = λ i e h. elim (eqb_tells i lane) [
      | inl same ↦
          let at : IsSent ended (took lane (take n was.waiting) p) lane is =
          sent_moved ended p (took lane (take n was.waiting) p).taken lane was is refl
          (ap (λ (b : List ℕ). b ++ drop n was.waiting) (taken_here p lane (take n was.waiting)) ∙ regroup (p.taken lane) was.waiting n)
          (k.each lane d (omega (arith, h, same.1))) in
          subst (λ j. IsSent ended (took lane (take n was.waiting) p) j (get_or (set old lane is) j e)) (sym same.1)
          (subst (λ (m : Lane). IsSent ended (took lane (take n was.waiting) p) lane m) (sym (get_or-set_same old lane is e here)) at)
      | inr other ↦
          let kept : get_or (set old lane is) i e ≡ get_or old i e = get_or-set_other old lane i is e other.1 in
          subst (λ (m : Lane). IsSent ended (took lane (take n was.waiting) p) i m) (sym kept)
          (sent_moved ended p (took lane (take n was.waiting) p).taken i (get_or old i e) (get_or old i e) refl
          (ap (λ (b : List ℕ). b ++ (get_or old i e).waiting) (taken_there p lane i (take n was.waiting) other.0)) (k.each i e h))
    ];
  }

  pub are_gone : lane < length old → AreGone lane n (lanes_of link old place ended) (lanes_of link (set old lane (lane_after n (get_or old lane d))) place ended)
  are_gone here i =
      let wait : Lane → List ℕ = λ (l : Lane). l.waiting in
      let moved : get_or (map wait (set old lane is)) i [] ≡ get_or (set (map wait old) lane is.waiting) i [] = ap (λ xs. get_or xs i []) (map-set wait old lane is) in
      moved ∙ elim (eqb_tells i lane) [
        | inl same ↦
            let long : lane < length (map wait old) = (let a = length-map old wait in omega (arith, a, here)) in
            let at : get_or (set (map wait old) lane is.waiting) i [] ≡ is.waiting = ap (λ j. get_or (set (map wait old) lane is.waiting) j []) same.1 ∙ get_or-set_same (map wait old) lane is.waiting [] long in
            let own : was.waiting ≡ get_or (map wait old) i [] = sym (waiting_is (lanes_of link old place ended) lane d here) ∙ ap (λ j. get_or (map wait old) j []) (sym same.1) in
            at ∙ ap (drop n) own ∙ sym (cond-true (i == lane) (drop n (get_or (map wait old) i [])) (get_or (map wait old) i []) same.0)
        | inr other ↦
            get_or-set_other (map wait old) lane i is.waiting [] other.1 ∙ sym (cond-false (i == lane) (drop n (get_or (map wait old) i [])) (get_or (map wait old) i []) other.0)
      ]

-- ---- of a lane that is lent

module _ (link : Settings) (old : List Lane) (place : ℕ) (ended : Bool) (lane n : ℕ) (d w : Lane) (was : d ≡ get_or old lane d) (is : w ≡ lane_after n d) (here : lane < length old) where
  after : lane_after n (get_or old lane d) ≡ w
  after = ap (lane_after n) (sym was) ∙ sym is

  pub took_here : (p : Progress) → Stands (lanes_of link old place ended) p → Stands (lanes_of link (set old lane w) place ended) (took lane (take n d.waiting) p)
  took_here p k =
      subst (λ (m : Lane). Stands (lanes_of link (set old lane m) place ended) (took lane (take n d.waiting) p)) after
      (subst (λ (l : Lane). Stands (lanes_of link (set old lane (lane_after n (get_or old lane d))) place ended) (took lane (take n l.waiting) p)) (sym was)
      (took_stands link old place ended lane n d p here k))

  pub gone_here : AreGone lane n (lanes_of link old place ended) (lanes_of link (set old lane w) place ended)
  gone_here i = sym (ap (λ (m : Lane). waiting_on i (lanes_of link (set old lane m) place ended)) after) ∙ are_gone link old place ended lane n d here i

  pub waits_here : waiting_on lane (lanes_of link old place ended) ≡ d.waiting
  waits_here = waiting_is (lanes_of link old place ended) lane d here ∙ ap (λ (l : Lane). l.waiting) (sym was)

-- ---- of a lane that is not there

pub none_gone : (v : Lanes) (lane : ℕ) → AreGone lane 0 v v
none_gone v lane i = elim (eqb_tells i lane) [
  | inl same ↦ sym (cond-true (i == lane) (waiting_on i v) (waiting_on i v) same.0)
  | inr other ↦ sym (cond-false (i == lane) (waiting_on i v) (waiting_on i v) other.0)
]

none_more : (p : Progress) (lane i : ℕ) → (took lane [] p).taken i ≡ p.taken i
none_more p lane i = elim (eqb_tells i lane) [
  | inl same ↦ cond-true (i == lane) (p.taken i ++ []) (p.taken i) same.0 ∙ append-nil (p.taken i)
  | inr other ↦ taken_there p lane i [] other.0
]

pub none_stands : (v : Lanes) (p : Progress) (lane : ℕ) → Stands v p → Stands v (took lane [] p)
none_stands v p lane k = record {
  limits = k.limits;
  link = k.link;
  count = k.count;
  place = k.place;
  rows = k.rows;
  whole = k.whole;
  each = λ i e h. sent_moved v.ended p (took lane [] p).taken i (get_or v.lanes i e) (get_or v.lanes i e) refl
      (ap (λ (b : List ℕ). b ++ (get_or v.lanes i e).waiting) (none_more p lane i)) (k.each i e h);
}

-- What is taken of a front, and given.
use Rattle.std.proofs.Common.{ℕ, suc, ◌≡◌, ◌%◌, ◌<◌, refl, sym, ap, ◌∙◌, subst, Bool, true, false, List, [], ◌∷◌, ◌++◌, length, append-nil, arith, inl, inr, ◌⊎◌}
use Rattle.std.proofs.Math.Nat.{mod-lt}
use Rattle.lk_base.specs.declared.word.Aligned.{Aligned}
use Rattle.lk_base.specs.declared.word.Aligned.TheVariants.{Group, Word, Break}
use Rattle.lk_base.specs.Link.{Settings}
use Rattle.lock_model.specs.declared.types.LaneStep.{LaneStep}
use Rattle.event_model.specs.Fed.{Fed, clock_of, rounds as rounds_of}
use Rattle.event_model.specs.Given.{AreItems}
use Rattle.event_model.proofs.Clocks.{rounds_at_end}
use Rattle.rx_front.specs.Lanes.{AllStand, are_ready}
use Rattle.rx_front.specs.Standing as front
use Rattle.rx_front.specs.Standing.{AtRound, GivesItem, MovesOn, Progress}
use Rattle.rx_front.specs.States.{Lane, State}
use Rattle.rx_front.proofs.Known.{rounds_in, unready}
use Rattle.live_gatherer.specs.declared.numbering.Numbering.{Numbering}
use Rattle.live_gatherer.specs.declared.taker.Taker.{Taker}
use Rattle.live_gatherer.specs.declared.types.Gathered.{Gathered}
use Rattle.live_gatherer.specs.declared.types.Gathered.TheVariants as gathereds
use Rattle.live_gatherer.specs.Bits.{AreWords, IsShown, Shows}
use Rattle.live_gatherer.specs.Numbers.{Counts, Numbered, as_number, next_number, numbered, own_numbered}
use Rattle.live_gatherer.specs.Taking.{AreAll, Drained, Gives, IsTold, Takes, is_group}
use Rattle.live_gatherer.proofs.Bits.{shows}
use Rattle.live_gatherer.proofs.Numberings.{numbered_more}

-- ---- there are as many lanes as the link has

lanes_are : (lanes : List Lane) (s : Settings) (rounds : ℕ) (fed : List Fed) (columns : List (List LaneStep)) → AllStand lanes s rounds fed columns → length lanes ≡ length fed
lanes_are [] s rounds [] [] st = refl
lanes_are [] s rounds [] (column ∷ columns) st = absurd st
lanes_are [] s rounds (lane ∷ fed) columns st = absurd st
lanes_are (v ∷ lanes) s rounds [] columns st = absurd st
lanes_are (v ∷ lanes) s rounds (lane ∷ fed) [] st = absurd st
lanes_are (v ∷ lanes) s rounds (lane ∷ fed) (column ∷ columns) st = ap suc (lanes_are lanes s rounds fed columns st.1)

pub link_lanes : (f : State) (link s : Settings) (fed : List Fed) (items : List Aligned) (t : Progress) → front.Stands f s fed items t → link ≡ s → link.lanes ≡ length f.lanes
link_lanes f link s fed items t st is =
    let same = lanes_are f.lanes s t.rounds fed t.columns st.lanes in
    let count = st.lane_count in
    let e : link.lanes ≡ s.lanes = ap (λ (x : Settings). x.lanes) is in
    omega (arith, same, count, e)

-- ---- an item is taken

-- a group gives nothing
own_of_group : (n : ℕ) (item : Aligned) → is_group item ≡ true → own_numbered n item ≡ []
own_of_group n (Group at) e = refl
own_of_group n (Word at word) e = absurd (let f : false ≡ true = e in cc)
own_of_group n (Break at why) e = absurd (let f : false ≡ true = e in cc)

-- what is told is given with its number
own_of_told : (s : Settings) (f : State) (n m : ℕ) (item : Aligned) (answer : Gathered) → IsTold s f item m answer → own_numbered n item ≡ record { item = item; number = n } ∷ []
own_of_told s f n m item (gathereds.Word w) h = rw h.is refl
own_of_told s f n m item (gathereds.Break b) h = rw h.is refl
own_of_told s f n m item gathereds.Ended h = absurd h

-- a word is at its bit
shown_answer : (f : State) (s : Settings) (fed : List Fed) (items : List Aligned) (item : Aligned) (t : Progress) (n : ℕ) (answer : Gathered) → front.Stands f s fed (items ++ item ∷ []) t → AreWords f.waiting → IsTold s f item n answer →
    IsShown s fed answer
shown_answer f s fed items item t n (gathereds.Word w) st words h =
    let low = st.link.lanes.0 in
    let lane = h.lane in
    let lt : w.at.index % s.lanes < s.lanes = mod-lt w.at.index (omega (arith, low)) in
    subst (λ (bit : ℕ). Shows s fed w.lane bit w.word) (sym h.bit)
    (shows f s fed items w.at w.word t w.lane (subst (λ (a : Aligned). front.Stands f s fed (items ++ a ∷ []) t) h.is st) words lane (omega (arith, lane, lt)))
shown_answer f s fed items item t n (gathereds.Break b) st words h = tt
shown_answer f s fed items item t n gathereds.Ended st words h = tt

module _ (v w : Taker) (s : Settings) (fed : List Fed) (given : List Numbered) (k : Takes v s fed given) (item : Aligned)
    (link : w.link ≡ v.link) (stands : front.Stands w.front s fed (k.items ++ item ∷ []) k.progress) (counts : Counts w.numbering (k.items ++ item ∷ [])) where
  pub group_taken : is_group item ≡ true → Takes w s fed given
  group_taken group = record {
    items = k.items ++ item ∷ [];
    progress = k.progress;
    front = stands;
    link = link ∙ k.link;
    counts = counts;
    gave = k.gave ∙ sym (append-nil (numbered k.items)) ∙ ap (λ (xs : List Numbered). numbered k.items ++ xs) (sym (own_of_group (next_number k.items) item group)) ∙ sym (numbered_more k.items item);
  }

  pub item_told : AreWords w.front.waiting → (number : ℕ) (answer : Gathered) → number ≡ as_number (next_number k.items) → IsTold w.link w.front item number answer → Gives answer w s fed given
  item_told words number answer is told =
      let here : IsTold s w.front item (as_number (next_number k.items)) answer =
      subst (λ (n : ℕ). IsTold s w.front item n answer) is (subst (λ (l : Settings). IsTold l w.front item number answer) (link ∙ k.link) told) in
      record {
        next = record { item = item; number = next_number k.items };
        told = here;
        shown = shown_answer w.front s fed k.items item k.progress (as_number (next_number k.items)) answer stands words here;
        takes = record {
          items = k.items ++ item ∷ [];
          progress = k.progress;
          front = stands;
          link = link ∙ k.link;
          counts = counts;
          gave = ap (λ (xs : List Numbered). xs ++ record { item = item; number = next_number k.items } ∷ []) k.gave
              ∙ ap (λ (xs : List Numbered). numbered k.items ++ xs) (sym (own_of_told s w.front (next_number k.items) (as_number (next_number k.items)) item answer here)) ∙ sym (numbered_more k.items item);
        };
      }

-- ---- nothing is left, and the clock moves on

pub clock_moved : (v w : Taker) (s : Settings) (fed : List Fed) (given : List Numbered) → w.link ≡ v.link → w.numbering ≡ v.numbering →
    ((items : List Aligned) (t : Progress) → front.Stands v.front s fed items t → front.MovesOn w.front s fed items t) → Drained v s fed given → Takes w s fed given
clock_moved v w s fed given link numbering moves d =
    let moved = moves d.items d.progress d.front.stands in
    record {
      items = d.items;
      progress = moved.to;
      front = moved.stands;
      link = link ∙ d.link;
      counts = subst (λ (n : Numbering). Counts n d.items) (sym numbering) d.counts;
      gave = d.gave;
    }

-- ---- no further round can be made

round_cases : (over : Bool) (fed : List Fed) (rounds : ℕ) → AtRound over fed rounds → over ≡ true → rounds ≡ rounds_of fed
round_cases true fed rounds h e = h.1 ∙ sym (rounds_at_end fed h.0)
round_cases false fed rounds h e = absurd (let f : false ≡ true = e in cc)

all_rounds : (v : State) (s : Settings) (fed : List Fed) (items : List Aligned) (t : Progress) → front.Stands v s fed items t → (v.over ≡ true) ⊎ (are_ready v.lanes ≡ false) → t.rounds ≡ rounds_of fed
all_rounds v s fed items t st (inl over) = round_cases v.over fed t.rounds st.at_round over
all_rounds v s fed items t st (inr lacking) =
    let (least, is, low) = unready v.lanes s t.rounds fed t.columns st.lanes lacking in
    let high = rounds_in v s fed items t st in
    let same : rounds_of fed ≡ least = rw is refl in
    omega (arith, low, high, same)

pub all_given : (v w : Taker) (s : Settings) (fed : List Fed) (given : List Numbered) → w.front ≡ v.front → w.link ≡ v.link → w.numbering ≡ v.numbering →
    (v.front.left ≡ 0) × ((v.front.over ≡ true) ⊎ (are_ready v.front.lanes ≡ false)) → Drained v s fed given → Takes w s fed given × AreAll s fed given
all_given v w s fed given same link numbering stuck d =
    let st = d.front.stands in
    let rounds = all_rounds v.front s fed d.items d.progress st stuck.1 in
    let time = st.time in
    let none = stuck.0 in
    let clock : clock_of fed ≡ d.progress.clock = omega (arith, rounds, time, none) in (
      record {
        items = d.items;
        progress = d.progress;
        front = subst (λ (f : State). front.Stands f s fed d.items d.progress) (sym same) st;
        link = link ∙ d.link;
        counts = subst (λ (n : Numbering). Counts n d.items) (sym numbering) d.counts;
        gave = d.gave;
      },
      λ known are. d.gave ∙ ap (λ (xs : List Aligned). numbered xs) (sym (d.front.all known (subst (λ (n : ℕ). AreItems s n fed known) clock are))),
    )

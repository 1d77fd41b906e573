-- The laws on what is given.
use Rattle.std.proofs.Common.{ℕ, ◌≡◌, refl, sym, ap, ◌∙◌, subst, ◌+◌, Bool, true, false, List, [], ◌∷◌, ◌++◌, length, length-append, map, append_assoc, append-nil, arith, inl, inr, Option, Some, None}
use Rattle.std.specs.Prelude.{cond}
use Rattle.std.proofs.lemmas.Bool.{and_parts}
use Rattle.lk_base.specs.declared.word.Aligned.{Aligned}
use Rattle.lk_base.specs.declared.word.Aligned.TheVariants.{Group, Word, Break}
use Rattle.lk_base.specs.declared.word.RxWord.{RxWord}
use Rattle.lk_base.specs.Link.{Settings}
use Rattle.epoch_model.proofs.Leasts.{clash}
use Rattle.event_model.specs.Fed.{AllGo, Fed, all_finished, clock_of, whole}
use Rattle.event_model.specs.Given.{AreItems}
use Rattle.event_model.proofs.Clocks.{rounds_rise}
use Rattle.event_model.proofs.KnownItems.{items_exist, items_stay}
use Rattle.lane_words.specs.declared.places.PlaceRow.{PlaceRow}
use Rattle.lane_words.specs.Gathered.{between, ends_broken, places_after, words_after}
use Rattle.rx_front.specs.Standing as front
use Rattle.rx_front.specs.Standing.{Progress}
use Rattle.rx_front.specs.States.{State}
use Rattle.rx_front.proofs.Known.{clock_in, taken_first}
use Rattle.live_gatherer.specs.declared.gatherer.LiveGatherer.{LiveGatherer}
use Rattle.live_gatherer.specs.declared.types.Gathered.{Gathered}
use Rattle.live_gatherer.specs.declared.types.Gathered.TheVariants as gathereds
use Rattle.live_gatherer.specs.Calls.{IsNext}
use Rattle.live_gatherer.specs.Laws.{EndGaveAll, GivenComeFirst, NoneWaitsForBytes, NumberedAreGathered, WaitsForBytes, begun_after, rows_given, with_cause, words_given}
use Rattle.live_gatherer.specs.Numbers.{Numbered, numbered, numbered_after}
use Rattle.live_gatherer.specs.Standing.{Stands}
use Rattle.live_gatherer.specs.Taking.{AreAll}
use Rattle.live_gatherer.proofs.Numberings.{numbered_append}

-- ---- words and rows

-- no group began since the last word or break; or one did
words_so : (begun broken : Bool) (count : ℕ) (items : List Aligned) →
    cond begun (between broken ++ words_after false items) (words_after broken items) ≡ words_given broken (numbered_after (cond begun false broken) count items) ++ begun_after broken begun items
words_so false broken count [] = refl
words_so false broken count (Group at ∷ items) = words_so true broken (count + length (between broken) + 0) items
words_so false broken count (Word at w ∷ items) =
    ap (λ (ws : List RxWord). between broken ++ (w ∷ ws)) (words_so false false (count + length (between broken) + 1) items)
    ∙ sym (append_assoc (between broken) (w ∷ words_given false (numbered_after false (count + length (between broken) + 1) items)) (begun_after false false items))
words_so false broken count (Break at why ∷ items) =
    ap (λ (ws : List RxWord). between broken ++ ws) (words_so false true (count + length (between broken) + 0) items)
    ∙ sym (append_assoc (between broken) (words_given true (numbered_after true (count + length (between broken) + 0) items)) (begun_after true false items))
words_so true broken count [] = append-nil (between broken)
words_so true broken count (Group at ∷ items) = words_so true broken (count + 0 + 0) items
words_so true broken count (Word at w ∷ items) =
    ap (λ (ws : List RxWord). between broken ++ (w ∷ ws)) (words_so false false (count + 0 + 1) items)
    ∙ sym (append_assoc (between broken) (w ∷ words_given false (numbered_after false (count + 0 + 1) items)) (begun_after false false items))
words_so true broken count (Break at why ∷ items) =
    ap (λ (ws : List RxWord). between broken ++ ws) (words_so false true (count + 0 + 0) items)
    ∙ sym (append_assoc (between broken) (words_given true (numbered_after true (count + 0 + 0) items)) (begun_after true false items))

rows_are : (broken : Bool) (count : ℕ) (items : List Aligned) → with_cause (places_after broken count items) ≡ rows_given (numbered_after broken count items)
rows_are broken count [] = refl
rows_are broken count (Group at ∷ items) = rows_are false (count + length (between broken) + 0) items
rows_are broken count (Word at w ∷ items) = rows_are false (count + length (between broken) + 1) items
rows_are broken count (Break at why ∷ items) =
    ap (λ (rows : List PlaceRow). record { word = count + length (between broken); at = at; why = Some why } ∷ rows) (rows_are true (count + length (between broken) + 0) items)

pub numbered_are_gathered : NumberedAreGathered
numbered_are_gathered items = record { words = words_so false false 0 items; breaks = rows_are false 0 items }

-- ---- what comes first

numbered_first : (items rest : List Aligned) → (more : List Numbered) × (numbered (items ++ rest) ≡ numbered items ++ more)
numbered_first items rest = (numbered_after (ends_broken false items) (0 + length (words_after false items)) rest, numbered_append false 0 items rest)

still_first : (all known items more rest : List Aligned) → all ≡ known ++ rest → known ≡ items ++ more → all ≡ items ++ (more ++ rest)
still_first all known items more rest e f = e ∙ ap (λ (xs : List Aligned). xs ++ rest) f ∙ append_assoc items more rest

-- what was fed goes on to more: the items that were taken stay
items_first : (v : State) (s : Settings) (fed more_fed : List Fed) (items : List Aligned) (t : Progress) → front.Stands v s fed items t → AllGo fed more_fed → (all : List Aligned) → AreItems s (clock_of more_fed) more_fed all →
    (rest : List Aligned) × (all ≡ items ++ rest)
items_first v s fed more_fed items t st go all are =
    let low = st.link.lanes.0 in
    let long = st.link.metaframe.0 in
    let count = st.lane_count in
    let (known, are_known) = items_exist s t.clock fed (omega (arith, long)) (omega (arith, low, count)) in
    let (more, here) = taken_first v s fed items t st known are_known in
    let in_time = (clock_in v s fed items t st).1 in
    let later = rounds_rise fed more_fed go in
    let (rest, is) = items_stay s t.clock (clock_of more_fed) fed more_fed long st.link.deskew_below_half in_time (omega (arith, in_time, later)) (omega arith) go known all are_known are in
    (more ++ rest, still_first all known items more rest is here)

given_first : (g : LiveGatherer) (s : Settings) (fed more_fed : List Fed) (given : List Numbered) → Stands g s fed given → AllGo fed more_fed → (all : List Aligned) → AreItems s (clock_of more_fed) more_fed all →
    (rest : List Numbered) × (numbered all ≡ given ++ rest)
given_first g s fed more_fed given st go all are =
    let k = st.takes in
    let (rest, is) = items_first g.taker.front s fed more_fed k.items k.progress k.front go all are in
    let (more, here) = numbered_first k.items rest in
    (more, ap (λ (xs : List Aligned). numbered xs) is ∙ here ∙ ap (λ (xs : List Numbered). xs ++ more) (sym k.gave))

pub given_come_first : GivenComeFirst
given_come_first g s fed given lanes all st go are = given_first g s fed (map whole lanes) given st go all are

-- ---- the end

joined : (bytes : List ℕ) (finished : Bool) (xs ys : List Fed) → finished ≡ true → xs ≡ ys →
    ◌≡◌ {A = List Fed} (record { bytes = bytes; finished = true } ∷ xs) (record { bytes = bytes; finished = finished } ∷ ys)
joined bytes finished xs ys e f = cc

-- lanes that are finished are there whole
wholes : (fed : List Fed) → all_finished fed ≡ true → map whole (map (λ (lane : Fed). lane.bytes) fed) ≡ fed
wholes [] over = refl
wholes (lane ∷ fed) over =
    let parts = and_parts lane.finished (all_finished fed) over in
    joined lane.bytes lane.finished (map whole (map (λ (lane : Fed). lane.bytes) fed)) fed parts.0 (wholes fed parts.1)

pub end_gave_all : EndGaveAll
end_gave_all g s fed given items st over are =
    let end = st.over over in
    (end.finished, end.all items (subst (λ (lanes : List Fed). AreItems s (clock_of lanes) lanes items) (wholes fed end.finished) are))

-- ---- none

same_lanes : (fed : List Fed) → AllGo fed fed
same_lanes [] = tt
same_lanes (lane ∷ fed) = (record { rest = []; bytes = sym (append-nil lane.bytes); over = λ e. (e, refl) }, same_lanes fed)

-- no more is given where all was
none_more : (g h : LiveGatherer) (s : Settings) (fed : List Fed) (given : List Numbered) (next : Numbered) → Stands g s fed given → Stands h s fed (given ++ next ∷ []) → AreAll s fed given → ⊥
none_more g h s fed given next st now all =
    let k = now.takes in
    let long = k.front.link.metaframe.0 in
    let low = k.front.link.lanes.0 in
    let count = k.front.lane_count in
    let (known, are) = items_exist s (clock_of fed) fed (omega (arith, long)) (omega (arith, low, count)) in
    let (rest, is) = given_first h s fed fed (given ++ next ∷ []) now (same_lanes fed) known are in
    let e = ap length (all known are ∙ is ∙ append_assoc given (next ∷ []) rest) in
    let l = length-append given (next ∷ rest) in
    omega (arith, e, l)

some_none : (answer : Gathered) → ◌≡◌ {A = Option Gathered} (Some answer) None → ⊥
some_none answer e = cc

waits : (answer : Option Gathered) (g h : LiveGatherer) (s : Settings) (fed : List Fed) (given : List Numbered) → Stands g s fed given → IsNext g h answer → all_finished fed ≡ false → WaitsForBytes g h s fed given answer
waits None g h s fed given st call going = record {
  none = λ all. refl;
  all = λ e. (call.gives s fed given st).1;
  lacks = λ e. elim call.none [
    | inl over ↦ absurd (clash (st.over over).finished going)
    | inr lacking ↦ lacking
  ];
}
waits (Some (gathereds.Word w)) g h s fed given st call going = record {
  none = λ all. absurd (let k = call.gives s fed given st in none_more g h s fed given k.next st k.stands all);
  all = λ e. absurd (some_none _ e);
  lacks = λ e. absurd (some_none _ e);
}
waits (Some (gathereds.Break b)) g h s fed given st call going = record {
  none = λ all. absurd (let k = call.gives s fed given st in none_more g h s fed given k.next st k.stands all);
  all = λ e. absurd (some_none _ e);
  lacks = λ e. absurd (some_none _ e);
}
waits (Some gathereds.Ended) g h s fed given st call going = record {
  none = λ all. absurd (clash (call.gives s fed given st).1.finished going);
  all = λ e. absurd (some_none _ e);
  lacks = λ e. absurd (some_none _ e);
}

pub none_waits_for_bytes : NoneWaitsForBytes
none_waits_for_bytes g h s fed given answer st call going = waits answer g h s fed given st call going

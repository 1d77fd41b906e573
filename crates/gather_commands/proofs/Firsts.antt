-- Items that were taken of a front, and what they are of all lanes.
use Rattle.std.proofs.Common.{◌≡◌, ℕ, Bool, true, false, List, [], ◌∷◌, ◌++◌, length, map, take, refl, sym, ap, ◌∙◌, subst, append_assoc, arith, inl, inr, ◌⊎◌, Option}
use Rattle.lk_base.specs.Link.{Settings}
use Rattle.lk_base.specs.declared.word.Aligned.{Aligned}
use Rattle.lk_outside.specs.Files.{Files}
use Rattle.event_model.specs.Fed.{AllGo, Fed, clock_of, rounds as rounds_of, whole}
use Rattle.event_model.specs.Given.{AreItems}
use Rattle.event_model.proofs.Clocks.{rounds_at_end, rounds_rise}
use Rattle.event_model.proofs.KnownItems.{items_exist, items_stay}
use Rattle.rx_front.specs.Lanes.{are_ready as can_be_taken}
use Rattle.rx_front.specs.Standing as front
use Rattle.rx_front.specs.Standing.{AtRound, Drained, Progress}
use Rattle.rx_front.specs.States.{State}
use Rattle.rx_front.proofs.Known.{clock_in, rounds_in, taken_first, unready, words_taken}
use Rattle.run_stops.specs.declared.stop.Stop.{Stop}
use Rattle.gather_commands.specs.declared.gathered.Gathered.{Gathered}
use Rattle.gather_commands.specs.declared.gatherer.Gatherer.{Gatherer}
use Rattle.gather_commands.specs.Growing.{IsCutShort, IsGathered}
use Rattle.gather_commands.specs.Taking.{ComeFirst, HasShown, HasTaken, IsCutOff}

as_many : (fed more : List Fed) → AllGo fed more → length fed ≡ length more
as_many [] [] go = refl
as_many [] (later ∷ more) go = absurd go
as_many (lane ∷ fed) [] go = absurd go
as_many (lane ∷ fed) (later ∷ more) go = let e = as_many fed more go.1 in omega (arith, e)

-- what comes first of the first comes first
still_first : (all known items more rest : List Aligned) → all ≡ known ++ rest → known ≡ items ++ more → all ≡ items ++ (more ++ rest)
still_first all known items more rest e f = e ∙ ap (λ (xs : List Aligned). xs ++ rest) f ∙ append_assoc items more rest

-- the items that were taken are the first of those of any lanes that begin with what was fed
pub items_come_first : (v : State) (s : Settings) (fed : List Fed) (items : List Aligned) (t : Progress) → front.Stands v s fed items t → ComeFirst s fed items
items_come_first v s fed items t st lanes all go are =
    let low = st.link.lanes.0 in
    let long = st.link.metaframe.0 in
    let count = st.lane_count in
    let (known, are_known) = items_exist s t.clock fed (omega (arith, long)) (omega (arith, low, count)) in
    let (more, here) = taken_first v s fed items t st known are_known in
    let in_time = (clock_in v s fed items t st).1 in
    let later = rounds_rise fed (map whole lanes) go in
    let (rest, is) = items_stay s t.clock (clock_of (map whole lanes)) fed (map whole lanes) long st.link.deskew_below_half in_time (omega (arith, in_time, later)) (omega arith) go known all are_known are in
    (more ++ rest, still_first all known items more rest is here)

-- so are those before the words that wait
pub words_come_first : (v : State) (n : ℕ) (s : Settings) (fed : List Fed) (items : List Aligned) (t : Progress) → front.Stands v s fed items t → ComeFirst s fed (items ++ take n v.waiting)
words_come_first v n s fed items t st = items_come_first _ s fed (items ++ take n v.waiting) t (words_taken v n s fed items t st)

-- ---- all that is known

round_cases : (over : Bool) (fed : List Fed) (rounds : ℕ) → AtRound over fed rounds → over ≡ true → rounds ≡ rounds_of fed
round_cases true fed rounds h e = h.1 ∙ sym (rounds_at_end fed h.0)
round_cases false fed rounds h e = absurd (let f : false ≡ true = e in cc)

-- no further round can be made: all were made
pub all_rounds : (v : State) (s : Settings) (fed : List Fed) (items : List Aligned) (t : Progress) → front.Stands v s fed items t → (v.over ≡ true) ⊎ (can_be_taken v.lanes ≡ false) → t.rounds ≡ rounds_of fed
all_rounds v s fed items t st (inl over) = round_cases v.over fed t.rounds st.at_round over
all_rounds v s fed items t st (inr lacking) =
    let (least, is, low) = unready v.lanes s t.rounds fed t.columns st.lanes lacking in
    let high = rounds_in v s fed items t st in
    let same : rounds_of fed ≡ least = rw is refl in
    omega (arith, low, high, same)

pub shown_taken : (out : List ℕ) (s : Settings) (fed : List Fed) (g h : Gatherer) (was now : Option Files) → h.front ≡ g.front → h.gathered ≡ g.gathered →
    (g.front.left ≡ 0) × ((g.front.over ≡ true) ⊎ (can_be_taken g.front.lanes ≡ false)) → HasShown out s fed g was now → HasTaken out s fed h was now
shown_taken out s fed g h was now same_front same_gathered stuck shown =
    let st = shown.drained.stands in
    let t = shown.progress in
    let rounds = all_rounds g.front s fed shown.items t st stuck.1 in
    let time = st.time in
    let none = stuck.0 in
    let clock : clock_of fed ≡ t.clock = omega (arith, rounds, time, none) in
    record {
      items = shown.items;
      progress = t;
      stands = subst (λ (v : State). front.Stands v s fed shown.items t) (sym same_front) st;
      gathered = subst (λ (x : Gathered). IsGathered out shown.items x was now) (sym same_gathered) shown.gathered;
      rounds = rounds;
      all = λ known are. shown.drained.all known (subst (λ (n : ℕ). AreItems s n fed known) clock are);
    }

-- ---- what stopped it

pub cut_off : (out : List ℕ) (s : Settings) (fed : List Fed) (items : List Aligned) (why : Stop) (was now : Option Files) → ComeFirst s fed items → IsCutShort out items why was now → IsCutOff out s fed why was now
cut_off out s fed items why was now first stopped = record { items = items; stopped = stopped; first = first }

-- What is taken of a front and gathered.
use Rattle.std.proofs.Common.{◌≡◌, ℕ, Bool, true, false, List, [], ◌∷◌, ◌++◌, length, take, sym, ap, ◌∙◌, subst, arith, Option, Ok}
use Rattle.std.proofs.lemmas.List.{take_all}
use Rattle.lk_base.specs.Link.{Settings}
use Rattle.lk_base.specs.declared.word.Aligned.{Aligned}
use Rattle.lk_outside.specs.Files.{Files}
use Rattle.event_model.specs.Fed.{Fed}
use Rattle.rx_front.specs.Standing as front
use Rattle.rx_front.specs.Standing.{GivesItem, Progress}
use Rattle.rx_front.specs.States.{State}
use Rattle.run_stops.specs.declared.stop.Stop.{Stop}
use Rattle.gather_commands.specs.declared.gathered.Gathered.{Gathered}
use Rattle.gather_commands.specs.declared.gatherer.Gatherer.{Gatherer}
use Rattle.gather_commands.specs.Growing.{IsCutShort, IsGathered}
use Rattle.gather_commands.specs.Taking.{ComeFirst, HasShown, IsCutOff, IsGathering, TakesNext}
use Rattle.gather_commands.proofs.Firsts.{cut_off, items_come_first, words_come_first}

-- ---- words

module _ (out : List ℕ) (s : Settings) (fed : List Fed) (was : Option Files) (v : State) (items : List Aligned) (t : Progress) (st : front.Stands v s fed items t) (count : ℕ) (all : count ≡ length v.waiting) where
  all_taken : take count v.waiting ≡ v.waiting
  all_taken = take_all count v.waiting (omega (arith, all))

  pub words_cut : (why : Stop) (now : Option Files) → IsCutShort out (items ++ v.waiting) why was now → IsCutOff out s fed why was now
  words_cut why now h = cut_off out s fed (items ++ v.waiting) why was now (subst (λ (xs : List Aligned). ComeFirst s fed (items ++ xs)) all_taken (words_come_first v count s fed items t st)) h

  pub words_taken : (w : Gatherer) (now : Option Files) → front.Stands w.front s fed (items ++ take count v.waiting) t → IsGathered out (items ++ v.waiting) w.gathered was now → IsGathering out s fed w was now
  words_taken w now stands gathered = record {
    items = items ++ take count v.waiting;
    progress = t;
    stands = stands;
    gathered = subst (λ (xs : List Aligned). IsGathered out (items ++ xs) w.gathered was now) (sym all_taken) gathered;
  }

-- ---- an item

module _ (out : List ℕ) (s : Settings) (fed : List Fed) (was : Option Files) (v : State) (items : List Aligned) (t : Progress) (item : Aligned) (st : front.Stands v s fed (items ++ item ∷ []) t) where
  pub item_cut_off : (why : Stop) (now : Option Files) → IsCutShort out (items ++ item ∷ []) why was now → IsCutOff out s fed why was now
  item_cut_off why now h = cut_off out s fed (items ++ item ∷ []) why was now (items_come_first v s fed (items ++ item ∷ []) t st) h

  pub item_taken : (w : Gatherer) (now : Option Files) → w.front ≡ v → IsGathered out (items ++ item ∷ []) w.gathered was now → IsGathering out s fed w was now
  item_taken w now same gathered = record { items = items ++ item ∷ []; progress = t; stands = subst (λ (x : State). front.Stands x s fed (items ++ item ∷ []) t) (sym same) st; gathered = gathered }

-- ---- the front alone changes

pub front_moved : (out : List ℕ) (s : Settings) (fed : List Fed) (g h : Gatherer) (was now : Option Files) → h.gathered ≡ g.gathered
    → ((items : List Aligned) (t : Progress) → front.Stands g.front s fed items t → front.Stands h.front s fed items t) → IsGathering out s fed g was now → IsGathering out s fed h was now
front_moved out s fed g h was now same moves at = record {
  items = at.items;
  progress = at.progress;
  stands = moves at.items at.progress at.stands;
  gathered = subst (λ (x : Gathered). IsGathered out at.items x was now) (sym same) at.gathered;
}

-- nothing is left, and the clock moves on
pub clock_moved : (out : List ℕ) (s : Settings) (fed : List Fed) (g h : Gatherer) (was now : Option Files) → h.gathered ≡ g.gathered
    → ((items : List Aligned) (t : Progress) → front.Stands g.front s fed items t → front.MovesOn h.front s fed items t) → HasShown out s fed g was now → IsGathering out s fed h was now
clock_moved out s fed g h was now same moves at =
    let moved = moves at.items at.progress at.drained.stands in
    record {
      items = at.items;
      progress = moved.to;
      stands = moved.stands;
      gathered = subst (λ (x : Gathered). IsGathered out at.items x was now) (sym same) at.gathered;
    }

-- some were taken: one more was
pub some_next : (out : List ℕ) (s : Settings) (fed : List Fed) (g : Gatherer) (was now : Option Files) (next : Bool) → next ≡ true → TakesNext out s fed (Ok next) g was now → IsGathering out s fed g was now
some_next out s fed g was now next e h = subst (λ (b : Bool). TakesNext out s fed (Ok b) g was now) e h

pub none_next : (out : List ℕ) (s : Settings) (fed : List Fed) (g : Gatherer) (was now : Option Files) (next : Bool) → next ≡ false → TakesNext out s fed (Ok next) g was now → HasShown out s fed g was now
none_next out s fed g was now next e h = subst (λ (b : Bool). TakesNext out s fed (Ok b) g was now) e h

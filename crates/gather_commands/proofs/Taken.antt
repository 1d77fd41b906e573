-- Lanes are fed on, and their items are gathered, wherever their bytes are kept.
use Rattle.std.proofs.Common.{◌≡◌, ℕ, List, [], length, set, get_or, sym, ap, ◌∙◌, subst, inl, inr, ◌⊎◌, Option, Some, None, Contains}
use Rattle.lk_base.specs.Link.{Settings}
use Rattle.lk_base.specs.declared.word.Aligned.{Aligned}
use Rattle.lk_outside.specs.Files.{Files, Told}
use Rattle.event_model.specs.Fed.{AllBegin, Fed}
use Rattle.rx_front.specs.Standing as front
use Rattle.rx_front.specs.Standing.{Progress}
use Rattle.run_stops.specs.declared.stop.Stop.{Stop}
use Rattle.run_stops.specs.Stops.{IsOfStore}
use Rattle.run_shell.specs.Outcome.{LeavesOthers}
use Rattle.run_shell.specs.Outputs.{open_names}
use Rattle.run_shell.proofs.Writing.{whole_leaves}
use Rattle.lane_receipts.specs.declared.lane_offsets.OpenLane.{OpenLane}
use Rattle.lane_receipts.specs.Feeding.{IsLeastOpen, IsLeastOrNone, fed_next, offset_next}
use Rattle.lane_receipts.specs.Taking.{AreAsBefore, IsPieceAt}
use Rattle.lane_receipts.proofs.FedLanes.{next_offset}
use Rattle.lane_receipts.proofs.TakenLanes.{next_begin, widened}
use Rattle.gather_commands.specs.declared.gathered.Gathered.{Gathered}
use Rattle.gather_commands.specs.declared.gatherer.Gatherer.{Gatherer}
use Rattle.gather_commands.specs.Table.{gathered_names}
use Rattle.gather_commands.specs.Growing.{IsGathered}
use Rattle.gather_commands.specs.Taking.{HasTaken, IsCutOff, IsGathering}
use Rattle.gather_commands.proofs.Firsts.{items_come_first}
use Rattle.gather_commands.proofs.Stops.{gathered_part}
use Rattle.gather_commands.specs.Lanes.{AllTaken, IsBroken, IsFeeding}
use Rattle.gather_commands.proofs.Fed.{counted, lanes_over, unfinished}

-- ---- files that are no outputs

-- the lanes' files are as before the outputs were created
pub as_before : (out : List ℕ) (items : List Aligned) (g : Gathered) (was now : Option Files) (names : List (List ℕ)) → IsGathered out items g was now → ((q : List ℕ) → Contains names q → Contains (gathered_names out) q → ⊥) → AreAsBefore names was now
as_before out items g was now names is apart =
    by was now (subst (λ ns. Told was now (LeavesOthers (λ files q. Contains ns q))) is.files.names (whole_leaves (open_names g.files.outputs) is.files.given.done was now is.files.given.stand))
  where
    by : (x y : Option Files) → Told x y (LeavesOthers (λ files q. Contains (gathered_names out) q)) → AreAsBefore names x y
    by None None t = t
    by None (Some v) t = absurd t
    by (Some u) None t = absurd t
    by (Some u) (Some v) t = λ q among. t q (apart q among)

-- ---- how it ends

-- items were cut off
pub cut_broken : (out : List ℕ) (s : Settings) (first fed : List Fed) (Are : List (List ℕ) → Type 0) (names : List (List ℕ)) (why : Stop) (was now : Option Files)
    → ((lanes : List (List ℕ)) → Are lanes → AllBegin first lanes → AllBegin fed lanes) → IsCutOff out s fed why was now → IsBroken out s first Are names why was now
cut_broken out s first fed Are names why was now from cut = record {
  items = cut.items;
  part = cut.stopped.part;
  stops = λ lanes are begin. record {
    by_store = widened (Contains (gathered_names out)) (λ q. Contains (gathered_names out) q ⊎ Contains names q) why (λ q e. inl e) cut.stopped.by_store;
    first = λ all is. cut.first lanes all (from lanes are begin) is;
  };
}

-- memory ran out, or a lane could not be read, after these items
pub gathered_broken : (out : List ℕ) (s : Settings) (first fed : List Fed) (Are : List (List ℕ) → Type 0) (names : List (List ℕ)) (why : Stop) (was now : Option Files) (g : Gatherer)
    → IsGathering out s fed g was now → ((lanes : List (List ℕ)) → Are lanes → AllBegin first lanes → AllBegin fed lanes × IsOfStore (Contains names) why) → IsBroken out s first Are names why was now
gathered_broken out s first fed Are names why was now g at from = record {
  items = at.items;
  part = gathered_part out at.items g.gathered was now at.gathered;
  stops = λ lanes are begin.
      let (begun, cause) = from lanes are begin in
      record {
        by_store = widened (Contains names) (λ q. Contains (gathered_names out) q ⊎ Contains names q) why (λ q e. inr e) cause;
        first = λ all is. items_come_first g.front s fed at.items at.progress at.stands lanes all begun is;
      };
}

-- all that is known was taken: so much was gathered
pub taken_gathering : (out : List ℕ) (s : Settings) (fed : List Fed) (g : Gatherer) (was now : Option Files) → HasTaken out s fed g was now → IsGathering out s fed g was now
taken_gathering out s fed g was now h = record { items = h.items; progress = h.progress; stands = h.stands; gathered = h.gathered }

-- the files are as they were, and more was fed to the front
pub fed_gathering : (out : List ℕ) (s : Settings) (fed later : List Fed) (g h : Gatherer) (was x y : Option Files) → y ≡ x → h.gathered ≡ g.gathered
    → ((items : List Aligned) (t : Progress) → front.Stands g.front s fed items t → front.Stands h.front s later items t)
    → IsGathering out s fed g was x → IsGathering out s later h was y
fed_gathering out s fed later g h was x y same kept feeds at = record {
  items = at.items;
  progress = at.progress;
  stands = feeds at.items at.progress at.stands;
  gathered = subst (λ z. IsGathered out at.items h.gathered was z) (sym same) (subst (λ (k : Gathered). IsGathered out at.items k was x) (sym kept) at.gathered);
}

-- ---- a piece

module _ (out : List ℕ) (s : Settings) (Are Still : List (List ℕ) → Type 0) (first fed : List Fed) (g : Gatherer) (offsets : List (Option ℕ)) (was now : Option Files) (at : IsFeeding out s Are Still first fed g offsets was now) (names : List (List ℕ)) where
  module _ (next : OpenLane) (least : IsLeastOpen (length offsets) offsets next.lane next.offset) where
    -- the lane could not be read
    pub unread : (why : Stop) (now' : Option Files) → now' ≡ now → ((lanes : List (List ℕ)) → Still lanes → IsOfStore (Contains names) why) → IsBroken out s first Are names why was now'
    unread why now' same cause =
        subst (λ x. IsBroken out s first Are names why was x) (sym same)
        (gathered_broken out s first fed Are names why was now g (taken_gathering out s fed g was now at.taken)
        (λ lanes are begin. let (still, begun) = at.from lanes are begin in (begun, cause lanes still)))

    module _ (Then : List (List ℕ) → Type 0) (piece : List ℕ) (read : (lanes : List (List ℕ)) → Still lanes → Then lanes × IsPieceAt next.offset piece (get_or lanes next.lane [])) where
      pub from_next : (lanes : List (List ℕ)) → Are lanes → AllBegin first lanes → Then lanes × AllBegin (fed_next next.lane piece fed) lanes
      from_next lanes are begin =
          let (still, begun) = at.from lanes are begin in
          let (later, is) = read lanes still in
          (later, next_begin lanes fed next.lane next.offset piece (unfinished out s fed g offsets was now at.taken at.reached next least) (counted out s fed g offsets was now at.taken at.reached next least) is begun)

      -- a piece was fed, and all of its items were gathered
      pub piece_taken : (h : Gatherer) (later : List (Option ℕ)) (now' : Option Files) → later ≡ set offsets next.lane (offset_next next.offset piece)
          → HasTaken out s (fed_next next.lane piece fed) h was now' → IsFeeding out s Are Then first (fed_next next.lane piece fed) h later was now'
      piece_taken h later now' set_so taken = record {
        taken = taken;
        reached = set_so ∙ ap (λ (os : List (Option ℕ)). set os next.lane (offset_next next.offset piece)) at.reached
            ∙ sym (next_offset fed next.lane next.offset piece (unfinished out s fed g offsets was now at.taken at.reached next least) (counted out s fed g offsets was now at.taken at.reached next least));
        from = from_next;
      }

      -- or were cut off
      pub piece_cut : (why : Stop) (now' : Option Files) → IsCutOff out s (fed_next next.lane piece fed) why was now' → IsBroken out s first Are names why was now'
      piece_cut why now' cut = cut_broken out s first (fed_next next.lane piece fed) Are names why was now' (λ lanes are begin. (from_next lanes are begin).1) cut

  -- all lanes are over
  pub lanes_taken : IsLeastOrNone (length offsets) offsets None → AllTaken out s first Are g was now
  lanes_taken none = record {
    fed = fed;
    taken = at.taken;
    over = lanes_over out s fed g offsets was now at.taken at.reached none;
    from = λ lanes are begin. (at.from lanes are begin).1;
  }

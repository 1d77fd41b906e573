-- Lanes are fed on, and their events come, wherever their bytes are kept.
use Rattle.std.proofs.Common.{◌≡◌, ℕ, zero, suc, ◌+◌, ◌<◌, ◌≤◌, true, List, [], ◌∷◌, ◌++◌, length, set, get_or, slice_get, refl, sym, ap, ◌∙◌, subst, append_assoc, arith, inl, inr, ◌⊎◌, Option, Some, None, Contains}
use Rattle.std.proofs.lemmas.Option.{none-some, same_Some}
use Rattle.lk_base.specs.Link.{Settings}
use Rattle.std.proofs.lemmas.Bool.{not-true}
use Rattle.lk_outside.specs.Files.{Files, Told}
use Rattle.receive_model.specs.Events.{Event}
use Rattle.event_model.specs.Fed.{AllBegin, Fed, all_finished}
use Rattle.rx_front.specs.Calls.{bytes_at, fed_more, finished_at, is_unfinished}
use Rattle.rx_end.specs.States.{State}
use Rattle.rx_end.proofs.Pieces.{given_come_first}
use Rattle.run_stops.specs.declared.stop.Stop.{Stop}
use Rattle.run_stops.specs.declared.stop.Stop.TheVariants as stop
use Rattle.run_shell.specs.Outcome.{LeavesOthers}
use Rattle.run_stops.specs.Stops.{IsOfStore}
use Rattle.run_shell.specs.Outputs.{open_names}
use Rattle.run_shell.proofs.Writing.{whole_leaves}
use Rattle.receipts.specs.declared.receipt.Receipt.{Receipt}
use Rattle.receipts.specs.Receipts.{Beginning, IsReceipt, names_of}
use Rattle.receipts.proofs.Receiving.{open_part}
use Rattle.lane_receipts.specs.declared.lane_offsets.OpenLane.{OpenLane}
use Rattle.lane_receipts.specs.Feeding.{IsCutOff, IsDrained, IsLeastOpen, IsLeastOrNone, fed_next, offset_next}
use Rattle.lane_receipts.specs.Holding.{IsFeeding, left_in, left_of}
use Rattle.lane_receipts.specs.Taking.{AllTaken, AreAsBefore, IsBroken, IsPieceAt}
use Rattle.lane_receipts.proofs.FedLanes.{all_end, ends_here, goes_on, next_offset}
use Rattle.lane_receipts.proofs.LaneOffsets.{all_over}
use Rattle.lane_receipts.proofs.OpenLanes.{counted, unfinished}

-- ---- a lane is fed on

module _ (piece : List ℕ) where
  more_begin : (lanes : List (List ℕ)) (fed : List Fed) (i at : ℕ) → is_unfinished i fed ≡ true → bytes_at i fed ≡ at → IsPieceAt at piece (get_or lanes i []) → AllBegin fed lanes → AllBegin (fed_more i piece fed) lanes
  more_begin [] [] i at e n is h = h
  more_begin [] (lane ∷ fed) i at e n is h = absurd h
  more_begin (bytes ∷ lanes) [] i at e n is h = absurd h
  more_begin (bytes ∷ lanes) (lane ∷ fed) zero at e n is h =
      let here : IsPieceAt (length lane.bytes) piece bytes = subst (λ k. IsPieceAt k piece bytes) (sym n) is in
      (goes_on bytes lane piece (not-true lane.finished e) here.taken h.0, h.1)
  more_begin (bytes ∷ lanes) (lane ∷ fed) (suc i) at e n is h = (h.0, more_begin lanes fed i at e n is h.1)

end_begin : (lanes : List (List ℕ)) (fed : List Fed) (i at : ℕ) → is_unfinished i fed ≡ true → bytes_at i fed ≡ at → IsPieceAt at [] (get_or lanes i []) → AllBegin fed lanes → AllBegin (finished_at i fed) lanes
end_begin [] [] i at e n is h = h
end_begin [] (lane ∷ fed) i at e n is h = absurd h
end_begin (bytes ∷ lanes) [] i at e n is h = absurd h
end_begin (bytes ∷ lanes) (lane ∷ fed) zero at e n is h =
    let le : length bytes ≤ length lane.bytes = subst (λ (k : ℕ). length bytes ≤ k) (sym n) (is.stops refl) in
    (ends_here bytes lane le h.0, h.1)
end_begin (bytes ∷ lanes) (lane ∷ fed) (suc i) at e n is h = (h.0, end_begin lanes fed i at e n is h.1)

pub next_begin : (lanes : List (List ℕ)) (fed : List Fed) (i at : ℕ) (piece : List ℕ) → is_unfinished i fed ≡ true → bytes_at i fed ≡ at → IsPieceAt at piece (get_or lanes i []) → AllBegin fed lanes → AllBegin (fed_next i piece fed) lanes
next_begin lanes fed i at [] e n is h = end_begin lanes fed i at e n is h
next_begin lanes fed i at (byte ∷ piece) e n is h = more_begin (byte ∷ piece) lanes fed i at e n is h

-- ---- what is left

-- less is left where one lane goes on
less_left : (limit : ℕ) (offsets : List (Option ℕ)) (i : ℕ) (o p : Option ℕ) → slice_get offsets i ≡ Some o → left_of limit p < left_of limit o → left_in limit (set offsets i p) < left_in limit offsets
less_left limit [] i o p e lt = absurd (none-some o e)
less_left limit (x ∷ offsets) zero o p e lt = let same : x ≡ o = same_Some x o e in let l : left_of limit x ≡ left_of limit o = ap (left_of limit) same in omega arith
less_left limit (x ∷ offsets) (suc i) o p e lt = let less = less_left limit offsets i o p e lt in omega arith

less_by : (limit at : ℕ) (piece : List ℕ) → at + length piece ≤ limit → left_of limit (offset_next at piece) < left_of limit (Some at)
less_by limit at [] within = omega arith
less_by limit at (byte ∷ piece) within = omega arith

next_within : (limit at a : ℕ) (piece : List ℕ) → at + length piece ≤ limit → offset_next at piece ≡ Some a → a ≤ limit
next_within limit at a [] within e = absurd (none-some a e)
next_within limit at a (byte ∷ piece) within e = let same : at + length (byte ∷ piece) ≡ a = same_Some _ a e in omega arith

set_cases : (offsets : List (Option ℕ)) (i other a : ℕ) (p : Option ℕ) → slice_get (set offsets i p) other ≡ Some (Some a) → (p ≡ Some a) ⊎ (slice_get offsets other ≡ Some (Some a))
set_cases [] i other a p e = inr e
set_cases (x ∷ offsets) zero zero a p e = inl (same_Some p (Some a) e)
set_cases (x ∷ offsets) zero (suc other) a p e = inr e
set_cases (x ∷ offsets) (suc i) zero a p e = inr e
set_cases (x ∷ offsets) (suc i) (suc other) a p e = set_cases offsets i other a p e

module _ (limit : ℕ) (offsets later : List (Option ℕ)) (i at : ℕ) (piece : List ℕ) (is : later ≡ set offsets i (offset_next at piece)) (within : at + length piece ≤ limit) where
  pub still_within : ((lane a : ℕ) → slice_get offsets lane ≡ Some (Some a) → a ≤ limit) → (lane a : ℕ) → slice_get later lane ≡ Some (Some a) → a ≤ limit
  still_within before lane a e = elim (set_cases offsets i lane a (offset_next at piece) (subst (λ (os : List (Option ℕ)). slice_get os lane ≡ Some (Some a)) is e)) [
    | inl here ↦ next_within limit at a piece within here
    | inr there ↦ before lane a there
  ]

  pub less : slice_get offsets i ≡ Some (Some at) → left_in limit later < left_in limit offsets
  less here = subst (λ (os : List (Option ℕ)). left_in limit os < left_in limit offsets) (sym is) (less_left limit offsets i (Some at) (offset_next at piece) here (less_by limit at piece within))

-- ---- files that are no outputs

-- the lanes' files are as before the outputs were created
pub as_before : (b : Beginning) (given : List Event) (kept : Receipt) (now : Option Files) (names : List (List ℕ)) → IsReceipt b given kept now → ((q : List ℕ) → Contains names q → Contains (names_of b) q → ⊥) → AreAsBefore names b.was now
as_before b given kept now names is apart =
    by b.was now (subst (λ ns. Told b.was now (LeavesOthers (λ files q. Contains ns q))) is.names (whole_leaves (open_names kept.outputs) is.given.done b.was now is.given.stand))
  where
    by : (x y : Option Files) → Told x y (LeavesOthers (λ files q. Contains (names_of b) q)) → AreAsBefore names x y
    by None None t = t
    by None (Some v) t = absurd t
    by (Some u) None t = absurd t
    by (Some u) (Some v) t = λ q among. t q (apart q among)

-- a stop at one of these names is one at more names
pub widened : (P Q : List ℕ → Type 0) (s : Stop) → ((q : List ℕ) → P q → Q q) → IsOfStore P s → IsOfStore Q s
widened P Q (stop.Plan why) more h = h
widened P Q (stop.Input n why) more h = h
widened P Q (stop.Store n) more h = more _ h
widened P Q stop.StoreNoMemory more h = h
widened P Q stop.OutOfMemory more h = h

-- ---- how it ends

-- events were cut off
pub cut_broken : (b : Beginning) (s : Settings) (first fed : List Fed) (Are : List (List ℕ) → Type 0) (names : List (List ℕ)) (why : Stop) (now : Option Files)
    → ((lanes : List (List ℕ)) → Are lanes → AllBegin first lanes → AllBegin fed lanes) → IsCutOff b s fed why now → IsBroken b s first Are names why now
cut_broken b s first fed Are names why now from cut = record {
  came = cut.stopped.came;
  part = cut.stopped.part;
  stops = λ lanes are begin. record {
    by_store = widened (Contains (names_of b)) (λ q. Contains (names_of b) q ⊎ Contains names q) why (λ q e. inl e) cut.stopped.by_store;
    first = λ all events.
        let (rest, is) = cut.first lanes all (from lanes are begin) events in
        (cut.stopped.rest ++ rest, is ∙ ap (λ es. es ++ rest) cut.stopped.all ∙ append_assoc cut.stopped.came cut.stopped.rest rest);
  };
}

-- ---- a piece

module _ (b : Beginning) (s : Settings) (Are Still : List (List ℕ) → Type 0) (first fed : List Fed) (given : List Event) (r : State) (offsets : List (Option ℕ)) (kept : Receipt) (now : Option Files) (at : IsFeeding b s Are Still first fed given r offsets kept now) (names : List (List ℕ)) where
  module _ (next : OpenLane) (least : IsLeastOpen (length offsets) offsets next.lane next.offset) where
    not_over : is_unfinished next.lane fed ≡ true
    not_over = unfinished b s fed given r offsets kept now at.drained at.reached next least

    fed_so : bytes_at next.lane fed ≡ next.offset
    fed_so = counted b s fed given r offsets kept now at.drained at.reached next least

    -- the lane could not be read
    pub unread : (why : Stop) (now' : Option Files) → now' ≡ now → ((lanes : List (List ℕ)) → Still lanes → IsOfStore (Contains names) why) → IsBroken b s first Are names why now'
    unread why now' same cause = subst (λ x. IsBroken b s first Are names why x) (sym same) (record {
      came = given;
      part = open_part b given kept now at.drained.taking.receipt;
      stops = λ lanes are begin.
          let (still, begun) = at.from lanes are begin in
          record {
            by_store = widened (Contains names) (λ q. Contains (names_of b) q ⊎ Contains names q) why (λ q e. inr e) (cause lanes still);
            first = λ all events. given_come_first r s b.setting fed given lanes all at.drained.taking.stands begun events;
          };
    })

    module _ (Then : List (List ℕ) → Type 0) (piece : List ℕ) (read : (lanes : List (List ℕ)) → Still lanes → Then lanes × IsPieceAt next.offset piece (get_or lanes next.lane [])) where
      pub from_next : (lanes : List (List ℕ)) → Are lanes → AllBegin first lanes → Then lanes × AllBegin (fed_next next.lane piece fed) lanes
      from_next lanes are begin =
          let (still, begun) = at.from lanes are begin in
          let (later, is) = read lanes still in
          (later, next_begin lanes fed next.lane next.offset piece not_over fed_so is begun)

      -- a piece was fed, and all of its events came
      pub piece_taken : (r' : State) (later : List (Option ℕ)) (kept' : Receipt) (now' : Option Files) (given' : List Event)
          → later ≡ set offsets next.lane (offset_next next.offset piece) → IsDrained b s (fed_next next.lane piece fed) given' r' kept' now' → IsFeeding b s Are Then first (fed_next next.lane piece fed) given' r' later kept' now'
      piece_taken r' later kept' now' given' set_so drained = record {
        drained = drained;
        reached = set_so ∙ ap (λ (os : List (Option ℕ)). set os next.lane (offset_next next.offset piece)) at.reached ∙ sym (next_offset fed next.lane next.offset piece not_over fed_so);
        from = from_next;
      }

      -- or were cut off
      pub piece_cut : (why : Stop) (now' : Option Files) → IsCutOff b s (fed_next next.lane piece fed) why now' → IsBroken b s first Are names why now'
      piece_cut why now' cut = cut_broken b s first (fed_next next.lane piece fed) Are names why now' (λ lanes are begin. (from_next lanes are begin).1) cut

  -- all lanes are over
  pub lanes_over : IsLeastOrNone (length offsets) offsets None → all_finished fed ≡ true
  lanes_over none = all_end fed (λ i a e. all_over offsets none i a (subst (λ (os : List (Option ℕ)). slice_get os i ≡ Some (Some a)) (sym at.reached) e))

  pub lanes_taken : IsLeastOrNone (length offsets) offsets None → AllTaken b s first Are r kept now
  lanes_taken none = record {
    fed = fed;
    given = given;
    drained = at.drained;
    over = lanes_over none;
    from = λ lanes are begin. (at.from lanes are begin).1;
  }

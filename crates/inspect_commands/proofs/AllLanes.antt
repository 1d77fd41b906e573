-- The table of all lanes, lane after lane.
use Rattle.std.proofs.Common.{◌≡◌, ℕ, suc, ◌+◌, ◌<◌, List, [], ◌∷◌, ◌++◌, length, get_or, take, refl, sym, ap, ap₂, ◌∙◌, subst, append-nil, arith, inl, ◌⊎◌, Option, IfSome, Contains}
use Rattle.std.proofs.lemmas.List.{length-append, take_all}
use Rattle.std.proofs.lemmas.List.Sums.{sum_by_push}
use lib.Chars.{codes}
use Rattle.lk_base.specs.Checksum.{bits_of_bytes}
use Rattle.lk_base.specs.Link.{Settings}
use Rattle.lk_outside.specs.Files.{Files, Told}
use Rattle.lock_model.specs.declared.types.LaneReport.{LaneReport}
use Rattle.lane_lock.specs.Standing.{IsReport}
use Rattle.csv_rows.specs.Written.{rows_text}
use Rattle.link_reports.specs.Lines.{count_line, lane_line}
use Rattle.run_stops.specs.declared.stop.Stop.{Stop}
use Rattle.run_stops.specs.declared.stop.Stop.TheVariants as stop
use Rattle.run_stops.specs.Stops.{IsOfStore}
use Rattle.run_stops.proofs.Moves.{if_both, if_told, if_told_by}
use Rattle.run_shell.specs.Open.{Open}
use Rattle.run_shell.specs.Outcome.{Holds, HoldsPart}
use Rattle.run_shell.specs.Outputs.{IsOpen, open_names, outs}
use Rattle.run_shell.proofs.Fills.{open_part, same_prefixes}
use Rattle.lane_receipts.specs.LaneReports.{AreLaneReports}
use Rattle.lane_receipts.proofs.LaneLines.{next_count, next_line}
use Rattle.lane_receipts.proofs.TakenLanes.{widened}
use Rattle.lane_events.specs.Events.{AreLaneEvents}
use Rattle.lane_events.specs.Inspection.{Inspects}
use Rattle.lane_events.proofs.EventsHold.{events_determined}
use Rattle.inspect_commands.specs.declared.lane.InspectedLane.{InspectedLane}
use Rattle.inspect_commands.specs.declared.lanes.ToldLanes.{ToldLanes}
use Rattle.inspect_commands.specs.Table.{event_rows, events_table, heading, lane_rows}
use Rattle.inspect_commands.specs.Inspect.{AreEventsOfLanes}
use Rattle.inspect_commands.specs.Telling.{AreTold, HasTold, IsBroken, IsCutOff, IsTelling, IsWhole, IsWithin}
use Rattle.inspect_commands.proofs.LaneByLane.{events_next, lane_report, reports_next, same_lanes, table_begins}
use Rattle.inspect_commands.proofs.Tables.{given_none, next_lane, table_none}
use Rattle.inspect_commands.proofs.Tellings.{none_told}

-- other names of the outputs and of the files, which are the same
pub broken_of : (s : Settings) (lanes outputs names others ns : List (List ℕ)) (why : Stop) (was now : Option Files) → outputs ≡ others → names ≡ ns → IsBroken s lanes outputs names why was now → IsBroken s lanes others ns why was now
broken_of s lanes outputs names others ns why was now e f h =
    subst (λ (o : List (List ℕ)). IsBroken s lanes o ns why was now) e (subst (λ (n : List (List ℕ)). IsBroken s lanes outputs n why was now) f h)

-- memory ran out after all events of a lane
told_cut : (s : Settings) (lane : ℕ) (bytes given : List ℕ) (Are : Type 0) (names : List (List ℕ)) (t : InspectedLane) (opens : List Open) (was now : Option Files) → HasTold s lane bytes given Are t opens was now → IsCutOff s lane bytes given (open_names opens) names stop.OutOfMemory was now
told_cut s lane bytes given Are names t opens was now h = record {
  events = h.events;
  part = open_part opens ((given ++ event_rows lane h.events) ∷ []) ((given ++ event_rows lane h.events) ∷ []) was now (same_prefixes ((given ++ event_rows lane h.events) ∷ [])) h.stand;
  stops = if_told_by was (λ files (are, k, events). (tt, λ all is. ([], events_determined s (bits_of_bytes bytes) all h.events is events ∙ sym (append-nil h.events)))) h.taken;
}

-- ---- one more lane

module _ (s : Settings) (lane : ℕ) (lanes : List (List ℕ)) (Are : Type 0) (t : ToldLanes) (opens : List Open) (was now : Option Files) (at : AreTold s lane lanes Are t opens was now) where
  abbrev bytes : List ℕ
  bytes = get_or lanes lane []

  abbrev given : List ℕ
  given = events_table at.events

  -- nothing was taken of the next lane yet
  pub lane_begins : (u : InspectedLane) → u.offset ≡ 0 → u.events ≡ 0 → Inspects u.inspector s [] → AreLaneEvents s [] [] → IsTelling s lane bytes given Are u opens was now
  lane_begins u start none inspects events = none_told s lane bytes given Are u opens was now start none inspects events at.stand (if_told_by was (λ files (are, e, r). are) at.are)

  module _ (below : lane < length lanes) where
    -- the events of a lane were cut off
    pub lane_cut : (outputs names : List (List ℕ)) (why : Stop) (now' : Option Files) → IsCutOff s lane bytes given outputs names why was now' → IsBroken s lanes outputs names why was now'
    lane_cut outputs names why now' cut = record {
      first = given ++ event_rows lane cut.events;
      part = cut.part;
      stops = if_told_by was (λ files ((are, e, r), (store, first)). (store, λ whole is. table_begins s lane lanes whole at.events cut.events below is e first))
          (if_both _ _ was at.are cut.stops);
    }

    -- memory ran out before the next lane
    pub lane_unmade : (names : List (List ℕ)) → IsBroken s lanes (open_names opens) names stop.OutOfMemory was now
    lane_unmade names = lane_cut (open_names opens) names stop.OutOfMemory now (record {
      events = [];
      part = subst (λ (b : List ℕ). Told was now (HoldsPart (outs (open_names opens) (b ∷ [])))) (given_none given lane) (open_part opens (given ∷ []) (given ∷ []) was now (same_prefixes (given ∷ [])) at.stand);
      stops = if_told was (λ files. (tt, λ all is. (all, refl)));
    })

    module _ (Then : Type 0) (u : InspectedLane) (later : List Open) (now' : Option Files) (h : HasTold s lane bytes given Then u later was now') where
      -- or before its line
      pub line_unmade : (names : List (List ℕ)) → open_names later ≡ open_names opens → IsBroken s lanes (open_names opens) names stop.OutOfMemory was now'
      line_unmade names same = subst (λ (o : List (List ℕ)). IsBroken s lanes o names stop.OutOfMemory was now') same (lane_cut (open_names later) names stop.OutOfMemory now' (told_cut s lane bytes given Then names u later was now' h))

      -- it is told
      pub lane_told : (w : ToldLanes) (report : LaneReport) → IsWithin u → ((s : Settings) (bits : List _) → Inspects u.inspector s bits → IsReport s bits report) → w.lines.items ≡ t.lines.items ++ lane_line lane report → w.events ≡ t.events + u.events
          → AreTold s (lane + 1) lanes Then w later was now'
      lane_told w report within reported lines sum = record {
        reports = at.reports ++ report ∷ [];
        events = at.events ++ h.events ∷ [];
        many = (let a = length-append at.events (h.events ∷ []) in let b = at.many in omega (arith, a, b));
        lines = next_count at.reports report lane at.lines;
        text = lines ∙ ap (λ (x : List ℕ). x ++ lane_line lane report) at.text ∙ next_line at.reports report lane at.lines;
        sum = (let a = sum_by_push length at.events h.events in let b = at.sum in let c = h.count in omega (arith, a, b, c, sum));
        few = (let a = at.few in let b = within.few in let c = within.short in omega (arith, a, b, c, sum));
        stand = subst (λ (b : List ℕ). IsOpen later (b ∷ []) was now') (next_lane at.events h.events lane at.many) h.stand;
        are = if_told_by was (λ files ((before, e, r), (then, inspects, events)).
            let more : suc lane ≡ lane + 1 = omega arith in (
              then,
              subst (λ n. AreEventsOfLanes s (take n lanes) (at.events ++ h.events ∷ [])) more (events_next s lane lanes at.events h.events below e events),
              subst (λ n. AreLaneReports s (take n lanes) (at.reports ++ report ∷ [])) more (reports_next s lane lanes at.reports report below r (lane_report s bytes report (reported s (bits_of_bytes bytes) inspects))),
            ))
            (if_both _ _ was at.are h.taken);
      }

-- ---- all lanes

-- the heading stands, and no lane is told yet
pub none_yet : (s : Settings) (lanes : List (List ℕ)) (Are : Type 0) (t : ToldLanes) (opens : List Open) (was now : Option Files) → t.lines.items ≡ [] → t.events ≡ 0 → IsOpen opens (rows_text (heading ∷ []) ∷ []) was now → IfSome was (λ files. Are) → AreTold s 0 lanes Are t opens was now
none_yet s lanes Are t opens was now lines none stand are = record {
  reports = [];
  events = [];
  many = refl;
  lines = refl;
  text = lines;
  sum = none;
  few = omega (arith, none);
  stand = subst (λ (b : List ℕ). IsOpen opens (b ∷ []) was now) table_none stand;
  are = if_told_by was (λ files a. (a, tt, tt)) are;
}

-- the heading could not be written
pub heading_cut : (s : Settings) (lanes outputs names : List (List ℕ)) (why : Stop) (was now : Option Files) → IsOfStore (Contains outputs) why → Told was now (HoldsPart (outs outputs (rows_text (heading ∷ []) ∷ []))) → IsBroken s lanes outputs names why was now
heading_cut s lanes outputs names why was now store part = record {
  first = rows_text (heading ∷ []);
  part = part;
  stops = if_told was (λ files. (widened (Contains outputs) (λ q. Contains outputs q ⊎ Contains names q) why (λ q e. inl e) store, λ whole is. (lane_rows 0 whole, refl)));
}

module _ (s : Settings) (count : ℕ) (lanes : List (List ℕ)) (Are : Type 0) (t : ToldLanes) (opens : List Open) (was now : Option Files) (at : AreTold s count lanes Are t opens was now) (many : length lanes ≡ count) where
  all_are : IfSome was (λ files. AreEventsOfLanes s lanes at.events × AreLaneReports s lanes at.reports)
  all_are =
      let whole : take count lanes ≡ lanes = take_all count lanes (omega (arith, many)) in
      if_told_by was (λ files (are, e, r). (subst (λ (ls : List (List ℕ)). AreEventsOfLanes s ls at.events) whole e, subst (λ (ls : List (List ℕ)). AreLaneReports s ls at.reports) whole r)) at.are

  -- the table is whole
  pub table_whole : (text : List ℕ) → text ≡ t.lines.items ++ count_line (codes "events") t.events → IsWhole s lanes text (λ table. IsOpen opens (table ∷ []) was now) was
  table_whole text is = record {
    reports = at.reports;
    events = at.events;
    says = is ∙ ap₂ (λ (a : List ℕ) (b : ℕ). a ++ count_line (codes "events") b) at.text at.sum;
    stands = at.stand;
    are = all_are;
  }

  -- memory ran out after it
  pub table_unsaid : (outputs names : List (List ℕ)) → open_names opens ≡ outputs → IsBroken s lanes outputs names stop.OutOfMemory was now
  table_unsaid outputs names same = subst (λ (o : List (List ℕ)). IsBroken s lanes o names stop.OutOfMemory was now) same (record {
    first = events_table at.events;
    part = open_part opens (events_table at.events ∷ []) (events_table at.events ∷ []) was now (same_prefixes (events_table at.events ∷ [])) at.stand;
    stops = if_told_by was (λ files (e, r). (tt, λ whole is. ([], ap events_table (same_lanes s lanes whole at.events is e) ∙ sym (append-nil (events_table at.events))))) all_are;
  })

-- the table could not be finished
pub unfinished : (s : Settings) (lanes : List (List ℕ)) (text : List ℕ) (opens : List Open) (outputs names : List (List ℕ)) (why : Stop) (was now later : Option Files) → open_names opens ≡ outputs → IsOfStore (Contains (open_names opens)) why
    → (w : IsWhole s lanes text (λ table. IsOpen opens (table ∷ []) was now) was) → Told was later (HoldsPart (outs (open_names opens) (events_table w.events ∷ []))) → IsBroken s lanes outputs names why was later
unfinished s lanes text opens outputs names why was now later same store w part = subst (λ (o : List (List ℕ)). IsBroken s lanes o names why was later) same (record {
  first = events_table w.events;
  part = part;
  stops = if_told_by was (λ files (e, r). (
    widened (Contains (open_names opens)) (λ q. Contains (open_names opens) q ⊎ Contains names q) why (λ q c. inl c) store,
    λ whole is. ([], ap events_table (same_lanes s lanes whole w.events is e) ∙ sym (append-nil (events_table w.events))),
  )) w.are;
})

-- it is finished
pub closed : (s : Settings) (lanes : List (List ℕ)) (text : List ℕ) (opens : List Open) (outputs : List (List ℕ)) (was now later : Option Files) → open_names opens ≡ outputs
    → (w : IsWhole s lanes text (λ table. IsOpen opens (table ∷ []) was now) was) → Told was later (Holds (outs (open_names opens) (events_table w.events ∷ []))) → IsWhole s lanes text (λ table. Told was later (Holds (outs outputs (table ∷ [])))) was
closed s lanes text opens outputs was now later same w stand = record {
  reports = w.reports;
  events = w.events;
  says = w.says;
  stands = subst (λ (o : List (List ℕ)). Told was later (Holds (outs o (events_table w.events ∷ [])))) same stand;
  are = w.are;
}

-- `inspect`: where its lanes begin, and what each of its ends fills.
use Rattle.std.proofs.Common.{◌≡◌, ℕ, ◌<◌, ◌≤◌, ◌^◌, All, List, [], ◌∷◌, ◌++◌, length, replicate, refl, sym, ap, ◌∙◌, subst, arith, inl, inr, ◌⊎◌, Some, Option, None, IfSome, Result, Ok, Err, Contains}
use Rattle.std.proofs.lemmas.List.{length-replicate}
use Rattle.std.proofs.lemmas.List.FromFn.{length-map-range_with_len}
use Rattle.std.proofs.lemmas.List.Elements.{Contains-append_left, Contains-append_right}
use lib.Chars.{codes}
use Rattle.lk_outside.specs.Files.{Files, Told}
use Rattle.link_plan.specs.Plan.{PlanValue}
use Rattle.link_plan.specs.Views.{plan_value}
use Rattle.link_plan.specs.declared.plan.Plan.{Plan}
use Rattle.run_stops.specs.declared.stop.Stop.{Stop}
use Rattle.run_stops.specs.declared.stop.Stop.TheVariants as stop
use Rattle.run_stops.specs.Stops.{IsOfStore}
use Rattle.run_stops.proofs.Moves.{if_told, if_told_by, told_by}
use Rattle.run_shell.specs.declared.finished.Finished.{Finished}
use Rattle.run_shell.specs.Ends.{held_status}
use Rattle.run_shell.specs.Names.{lane_name, lane_names}
use Rattle.run_shell.specs.Outcome.{Holds, HoldsPart, LeavesOthers, Outcome}
use Rattle.run_shell.specs.Outputs.{blank, open_names, outs}
use Rattle.run_shell.specs.Open.{Open}
use Rattle.run_shell.specs.Writing.{Fills, Writes}
use Rattle.run_shell.proofs.Fills.{part_more}
use Rattle.run_shell.proofs.OutputNames.{numbered_name, one_name}
use Rattle.run_shell.proofs.Writing.{none_writes, part_leaves, whole_leaves}
use Rattle.receipts.proofs.NamesDiffer.{last_of, last-behind}
use Rattle.lane_receipts.specs.LaneReports.{names_of_lanes}
use Rattle.lane_receipts.proofs.LaneNames.{lane_last}
use Rattle.lane_receipts.proofs.TakenLanes.{widened}
use Rattle.receive_commands.specs.declared.lane_buffer.LaneBuffer.{LaneBuffer}
use Rattle.receive_commands.specs.Receive.{lanes_in}
use Rattle.receive_commands.specs.ReadLanes.{AreFileLanes, IsFresh}
use Rattle.receive_commands.proofs.ReceiveRun.{begins}
use Rattle.receive_commands.proofs.Receives.{fills_more}
use Rattle.lane_events.specs.declared.types.LaneEvent.{LaneEvent}
use Rattle.inspect_commands.specs.Table.{events_table}
use Rattle.inspect_commands.specs.Inspect.{AreEventsOfLanes, IsInspected, events_name, inspected_outcome}
use Rattle.inspect_commands.specs.Telling.{AreShort, WritesTable}
use Rattle.inspect_commands.proofs.LanesThere.{lanes_count, lanes_short}

-- ---- the output is no lane

pub apart : (out : List ℕ) (lanes : ℕ) → lanes ≤ 64 → (q : List ℕ) → Contains (lane_names out lanes) q → Contains (events_name out ∷ []) q → ⊥
apart out lanes few q among output =
    let (lane, below, named) = numbered_name out lanes q among in
    let small : lane < 2 ^ 64 = omega arith in
    let low : last_of 0 q < 58 = subst (λ n. last_of 0 n < 58) (sym named) (lane_last out lane small) in
    let is : q ≡ events_name out = one_name (events_name out) q output in
    let high : 112 ≤ last_of 0 q = subst (λ n. 112 ≤ last_of 0 n) (sym is) (let f = last-behind 0 out 46 (codes "events.csv") in omega (arith, f)) in
    omega (arith, low, high)

-- ---- the ends

-- what an end fills, and that other files are as they were
pub record Ends (plan : Plan) (was : Option Files) (result : Result Finished Stop) (later : Option Files) : Type 0 where
  pub fills : IfSome was (λ files. (lanes : List (List ℕ)) → lanes_in files (names_of_lanes (plan_value plan)) ≡ Ok lanes →
      Fills (IsInspected (record { plan = plan_value plan; lanes = lanes })) ((events_name (plan_value plan).out ∷ []) ++ names_of_lanes (plan_value plan)) result was later)
  pub others : Told was later (LeavesOthers (λ files q. Contains (events_name (plan_value plan).out ∷ []) q))

-- memory ran out before anything was created
pub unmade : (plan : Plan) (was : Option Files) → Ends plan was (Err stop.OutOfMemory) was
unmade plan was = record { fills = if_told was (λ files lanes e. fills_more (of lanes) names lane_files (Err stop.OutOfMemory) was was (none (of lanes)).fills); others = (none (of [])).others }
  where
    names : List (List ℕ)
    names = events_name (plan_value plan).out ∷ []

    lane_files : List (List ℕ)
    lane_files = names_of_lanes (plan_value plan)

    of : List (List ℕ) → Outcome → Type 0
    of lanes = IsInspected (record { plan = plan_value plan; lanes = lanes })

    none : (P : Outcome → Type 0) → Writes P names (Err stop.OutOfMemory) was was
    none P = none_writes P names stop.OutOfMemory was tt

-- the output could not be created: it is not there, or empty
pub unopened : (plan : Plan) (names : List (List ℕ)) (why : Stop) (was later : Option Files) → names ≡ events_name (plan_value plan).out ∷ [] → IsOfStore (Contains names) why → Told was later (HoldsPart (outs names (blank names))) → Ends plan was (Err why) later
unopened plan names why was later is store part = record {
  fills = if_told was (λ files lanes e. record {
    by_store = widened (Contains mine) (Contains (mine ++ names_of_lanes (plan_value plan))) why (Contains-append_left mine (names_of_lanes (plan_value plan))) stored;
    part = λ o k. subst (λ (x : Outcome). Told was later (HoldsPart x.files)) (sym k.is) (told_by was later (λ u v h. part_more mine ([] ∷ []) (events_table k.events ∷ []) u v ((events_table k.events, refl), tt) h) there);
  });
  others = part_leaves mine ([] ∷ []) was later there;
}
  where
    mine : List (List ℕ)
    mine = events_name (plan_value plan).out ∷ []

    stored : IsOfStore (Contains mine) why
    stored = subst (λ (ns : List (List ℕ)). IsOfStore (Contains ns) why) is store

    there : Told was later (HoldsPart (outs mine ([] ∷ [])))
    there = subst (λ (ns : List (List ℕ)). Told was later (HoldsPart (outs ns (blank ns)))) is part

module _ (plan : Plan) (names : List (List ℕ)) (named : names ≡ names_of_lanes (plan_value plan)) (buffers : List LaneBuffer) (many : length names ≡ length buffers) (fresh : All IsFresh buffers) where
  abbrev value : PlanValue
  value = plan_value plan

  abbrev mine : List (List ℕ)
  mine = events_name value.out ∷ []

  abbrev lane_files : List (List ℕ)
  lane_files = names_of_lanes value

  -- these lanes are in the files
  abbrev Lanes : Option Files → List (List ℕ) → Type 0
  Lanes x all = (length all ≡ plan.link.lanes) × IfSome x (λ files. AreFileLanes names buffers x all × AreShort all)

  abbrev There : Option Files → Type 0
  There x = IfSome x (λ files. (lanes : List (List ℕ)) × (lanes_in files lane_files ≡ Ok lanes))

  lanes_of : (x : Option Files) → IfSome x (λ files. (lanes : List (List ℕ)) → lanes_in files lane_files ≡ Ok lanes → Lanes x lanes)
  lanes_of x =
      if_told_by x (λ files so lanes e. (lanes_count files value.out plan.link.lanes lanes e, if_told x (λ fs. ((so lanes e).0, lanes_short files lane_files lanes e))))
      (begins plan value.out x refl names named buffers many fresh)

  pub some_lanes : (x : Option Files) → There x → (all : List (List ℕ)) × Lanes x all
  some_lanes x there = by x there (lanes_of x)
    where
      by : (y : Option Files) → There y → IfSome y (λ files. (lanes : List (List ℕ)) → lanes_in files lane_files ≡ Ok lanes → Lanes y lanes) → (all : List (List ℕ)) × Lanes y all
      by None there of = (replicate plan.link.lanes [], (length-replicate plan.link.lanes [], tt))
      by (Some files) (lanes, e) of = (lanes, of lanes e)

  -- there is a buffer for each lane
  pub as_many : length buffers ≡ plan.link.lanes
  as_many = sym many ∙ ap (λ (ns : List (List ℕ)). length ns) named ∙ length-map-range_with_len (lane_name value.out) 0 plan.link.lanes

  -- the output is no lane
  pub no_output : (outputs : List (List ℕ)) → outputs ≡ mine → plan.link.lanes ≤ 64 → (q : List ℕ) → Contains names q → Contains outputs q → ⊥
  no_output outputs is few q among output = apart value.out plan.link.lanes few q (subst (λ ns. Contains ns q) named among) (subst (λ ns. Contains ns q) is output)

  store_by : (outputs : List (List ℕ)) (why : Stop) → outputs ≡ mine → IsOfStore (λ q. Contains outputs q ⊎ Contains names q) why → IsOfStore (Contains (mine ++ lane_files)) why
  store_by outputs why is = widened (λ q. Contains outputs q ⊎ Contains names q) (Contains (mine ++ lane_files)) why among
    where
      among : (q : List ℕ) → Contains outputs q ⊎ Contains names q → Contains (mine ++ lane_files) q
      among q (inl h) = Contains-append_left mine lane_files q (subst (λ ns. Contains ns q) is h)
      among q (inr h) = Contains-append_right mine lane_files q (subst (λ ns. Contains ns q) named h)

  module _ (opens : List Open) (is : open_names opens ≡ mine) (later : Option Files) where
    made : (files : Files) (lanes : List (List ℕ)) (r : Result Finished Stop) → WritesTable plan.link lanes names r opens (Some files) later
        → Fills (IsInspected (record { plan = value; lanes = lanes })) (mine ++ lane_files) r (Some files) later
    made files lanes (Ok f) (free, w) = record {
      outcome = inspected_outcome value.out w.reports w.events;
      is_outcome = record { reports = w.reports; are_reports = w.are.1; events = w.events; are_events = w.are.0; is = refl };
      status = ap held_status free;
      text = w.says;
      files = subst (λ (ns : List (List ℕ)). Told (Some files) later (Holds (outs ns (events_table w.events ∷ [])))) is w.stands;
    }
    made files lanes (Err why) h =
        let (store, begins) = h.stops in
        record { by_store = store_by (open_names opens) why is store; part = λ o k. part_by o k begins }
      where
        part_by : (o : Outcome) → IsInspected (record { plan = value; lanes = lanes }) o → ((events : List (List LaneEvent)) → AreEventsOfLanes plan.link lanes events → (rest : List ℕ) × (events_table events ≡ h.first ++ rest)) → Told (Some files) later (HoldsPart o.files)
        part_by o k begins =
            let (rest, whole) = begins k.events k.are_events in
            let part = subst (λ (ns : List (List ℕ)). Told (Some files) later (HoldsPart (outs ns (h.first ∷ [])))) is h.part in
            subst (λ (x : Outcome). Told (Some files) later (HoldsPart x.files)) (sym k.is)
            (told_by (Some files) later (λ u v p. part_more mine (h.first ∷ []) (events_table k.events ∷ []) u v ((rest, whole), tt) p) part)

    leaves : (x : Option Files) (lanes : List (List ℕ)) (r : Result Finished Stop) → WritesTable plan.link lanes names r opens x later → Told x later (LeavesOthers (λ files q. Contains mine q))
    leaves x lanes (Ok f) (free, w) = subst (λ (ns : List (List ℕ)). Told x later (LeavesOthers (λ files q. Contains ns q))) is (whole_leaves (open_names opens) (events_table w.events ∷ []) x later w.stands)
    leaves x lanes (Err why) h = subst (λ (ns : List (List ℕ)). Told x later (LeavesOthers (λ files q. Contains ns q))) is (part_leaves (open_names opens) (h.first ∷ []) x later h.part)

    -- the table was written, or a part of it
    pub ended : (x : Option Files) (r : Result Finished Stop) → There x → ((all : List (List ℕ)) → length all ≡ plan.link.lanes → IfSome x (λ files. AreFileLanes names buffers x all × AreShort all) → WritesTable plan.link all names r opens x later) → Ends plan x r later
    ended x r there writes = record {
      fills = by x (lanes_of x) writes;
      others = let (all, (count, are)) = some_lanes x there in leaves x all r (writes all count are);
    }
      where
        by : (y : Option Files) → IfSome y (λ files. (lanes : List (List ℕ)) → lanes_in files lane_files ≡ Ok lanes → Lanes y lanes)
            → ((all : List (List ℕ)) → length all ≡ plan.link.lanes → IfSome y (λ files. AreFileLanes names buffers y all × AreShort all) → WritesTable plan.link all names r opens y later)
            → IfSome y (λ files. (lanes : List (List ℕ)) → lanes_in files lane_files ≡ Ok lanes → Fills (IsInspected (record { plan = value; lanes = lanes })) (mine ++ lane_files) r y later)
        by None of writes = tt
        by (Some files) of writes = λ lanes e. let (count, are) = of lanes e in made files lanes r (writes lanes count are)

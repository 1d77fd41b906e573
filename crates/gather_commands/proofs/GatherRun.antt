-- `gather`: where its lanes begin, and what each of its ends fills.
use Rattle.std.proofs.Common.{◌≡◌, ℕ, zero, suc, ◌<◌, ◌≤◌, ◌^◌, All, List, [], ◌++◌, length, slice_get, refl, sym, subst, arith, inl, inr, ◌⊎◌, Some, Option, None, IfSome, Result, Ok, Err, Contains}
use Rattle.std.proofs.lemmas.List.Elements.{Contains-append_left, Contains-append_right}
use lib.Chars.{codes}
use Rattle.lk_base.specs.declared.word.Aligned.{Aligned}
use Rattle.lk_base.specs.Link.{Settings}
use Rattle.lk_outside.specs.Files.{Files, Told}
use Rattle.lock_model.specs.declared.types.LaneReport.{LaneReport}
use Rattle.event_model.specs.Fed.{AllBegin, Fed}
use Rattle.link_plan.specs.Plan.{PlanValue}
use Rattle.link_plan.specs.Views.{plan_value}
use Rattle.link_plan.specs.declared.plan.Plan.{Plan}
use Rattle.rx_front.specs.Calls.{IsReportOf, nothing_fed}
use Rattle.rx_front.specs.Standing as front
use Rattle.rx_front.specs.Standing.{Progress}
use Rattle.run_stops.specs.declared.stop.Stop.{Stop}
use Rattle.run_stops.specs.declared.stop.Stop.TheVariants as stop
use Rattle.run_stops.specs.Stops.{IsOfStore}
use Rattle.run_stops.proofs.Moves.{if_told_by}
use Rattle.run_shell.specs.declared.finished.Finished.{Finished}
use Rattle.run_shell.specs.Names.{lane_names}
use Rattle.run_shell.specs.Outcome.{HoldsPart, LeavesOthers, Outcome}
use Rattle.run_shell.specs.Outputs.{open_names, outs}
use Rattle.run_shell.specs.Writing.{Fills, Writes}
use Rattle.run_shell.proofs.OutputNames.{numbered_name}
use Rattle.run_shell.proofs.Writing.{none_writes, one_writes, part_leaves}
use Rattle.receipts.proofs.NamesDiffer.{last_of, last-behind}
use Rattle.lane_receipts.specs.LaneReports.{lane_lines, names_of_lanes}
use Rattle.lane_receipts.proofs.LaneNames.{lane_last}
use Rattle.lane_receipts.proofs.TakenLanes.{widened}
use Rattle.receive_commands.specs.declared.lane_buffer.LaneBuffer.{LaneBuffer}
use Rattle.receive_commands.specs.Receive.{lanes_in}
use Rattle.receive_commands.specs.ReadLanes.{AreFileLanes, IsFresh}
use Rattle.receive_commands.proofs.ReceiveRun.{begins}
use Rattle.receive_commands.proofs.Receives.{fills_more}
use Rattle.gather_commands.specs.declared.gatherer.Gatherer.{Gatherer}
use Rattle.gather_commands.specs.Table.{gathered_contents, gathered_names, gathered_outcome}
use Rattle.gather_commands.specs.Growing.{IsCutShort}
use Rattle.lane_words.specs.Items.{AreAllItems}
use Rattle.gather_commands.specs.Taking.{IsGathering}
use Rattle.gather_commands.proofs.Stops.{items_part}
use Rattle.gather_commands.specs.Gather.{IsGathered}
use Rattle.gather_commands.specs.Lanes.{AllTaken, IsBroken}
use Rattle.gather_commands.proofs.Gathers.{all_come, all_reported, one_gathered}
use Rattle.gather_commands.proofs.Taken.{cut_broken}

-- ---- no output is a lane

output_last : (out q : List ℕ) → Contains (gathered_names out) q → 112 ≤ last_of 0 q
output_last out q (zero, lt, e) = subst (λ n. 112 ≤ last_of 0 n) e (let f = last-behind 0 out 46 (codes "words") in omega (arith, f))
output_last out q (suc zero, lt, e) = subst (λ n. 112 ≤ last_of 0 n) e (let f = last-behind 0 out 46 (codes "places.csv") in omega (arith, f))
output_last out q (suc (suc k), lt, e) = absurd (omega arith)

pub apart : (out : List ℕ) (lanes : ℕ) → lanes ≤ 64 → (q : List ℕ) → Contains (lane_names out lanes) q → Contains (gathered_names out) q → ⊥
apart out lanes few q among output =
    let (lane, below, named) = numbered_name out lanes q among in
    let small : lane < 2 ^ 64 = omega arith in
    let low : last_of 0 q < 58 = subst (λ n. last_of 0 n < 58) (sym named) (lane_last out lane small) in
    let high = output_last out q output in
    omega (arith, low, high)

-- ---- the ends

-- what an end fills, and that other files are as they were
pub record Ends (plan : Plan) (was : Option Files) (result : Result Finished Stop) (later : Option Files) : Type 0 where
  pub fills : IfSome was (λ files. (lanes : List (List ℕ)) → lanes_in files (names_of_lanes (plan_value plan)) ≡ Ok lanes →
      Fills (IsGathered (record { plan = plan_value plan; lanes = lanes })) (gathered_names (plan_value plan).out ++ names_of_lanes (plan_value plan)) result was later)
  pub others : Told was later (LeavesOthers (λ files q. Contains (gathered_names (plan_value plan).out) q))

-- memory ran out before anything was created
pub unmade : (plan : Plan) (was : Option Files) → Ends plan was (Err stop.OutOfMemory) was
unmade plan was = record { fills = always was (λ files lanes e. fills_more (of lanes) names lane_files (Err stop.OutOfMemory) was was (none (of lanes)).fills); others = (none (of [])).others }
  where
    names : List (List ℕ)
    names = gathered_names (plan_value plan).out

    lane_files : List (List ℕ)
    lane_files = names_of_lanes (plan_value plan)

    of : List (List ℕ) → Outcome → Type 0
    of lanes = IsGathered (record { plan = plan_value plan; lanes = lanes })

    none : (P : Outcome → Type 0) → Writes P names (Err stop.OutOfMemory) was was
    none P = none_writes P names stop.OutOfMemory was tt

    always : {P : Files → Type 0} (x : Option Files) → ((files : Files) → P files) → IfSome x P
    always None f = tt
    always (Some files) f = f files

module _ (plan : Plan) (out : List ℕ) (was : Option Files) (prefixed : out ≡ (plan_value plan).out) (names : List (List ℕ)) (named : names ≡ names_of_lanes (plan_value plan)) (buffers : List LaneBuffer) (many : length names ≡ length buffers) (fresh : All IsFresh buffers) where
  abbrev value : PlanValue
  value = plan_value plan

  abbrev first : List Fed
  first = nothing_fed plan.link.lanes

  abbrev Are : List (List ℕ) → Type 0
  Are lanes = AreFileLanes names buffers was lanes

  abbrev of : List (List ℕ) → Outcome → Type 0
  of lanes = IsGathered (record { plan = value; lanes = lanes })

  begun : IfSome was (λ files. (lanes : List (List ℕ)) → lanes_in files (names_of_lanes value) ≡ Ok lanes → Are lanes × AllBegin first lanes)
  begun = begins plan out was prefixed names named buffers many fresh

  store_by : (why : Stop) → IsOfStore (λ q. Contains (gathered_names out) q ⊎ Contains names q) why → IsOfStore (Contains (gathered_names value.out ++ names_of_lanes value)) why
  store_by why = widened (λ q. Contains (gathered_names out) q ⊎ Contains names q) (Contains (gathered_names value.out ++ names_of_lanes value)) why among
    where
      among : (q : List ℕ) → Contains (gathered_names out) q ⊎ Contains names q → Contains (gathered_names value.out ++ names_of_lanes value) q
      among q (inl h) = Contains-append_left (gathered_names value.out) (names_of_lanes value) q (subst (λ p. Contains (gathered_names p) q) prefixed h)
      among q (inr h) = Contains-append_right (gathered_names value.out) (names_of_lanes value) q (subst (λ ns. Contains ns q) named h)

  -- something stopped it: a part of what some first items come to stands
  pub broken : (why : Stop) (later : Option Files) → IsBroken out value.settings first Are names why was later → Ends plan was (Err why) later
  broken why later h = record {
    fills = if_told_by was (λ files so lanes e.
        let (are, begin) = so lanes e in
        let stops = h.stops lanes are begin in
        record { by_store = store_by why stops.by_store; part = λ o k. part_by lanes o k stops.first }) begun;
    others = subst (λ p. Told was later (LeavesOthers (λ files q. Contains (gathered_names p) q))) prefixed (part_leaves (gathered_names out) (gathered_contents h.items) was later h.part);
  }
    where
      part_by : (lanes : List (List ℕ)) (o : Outcome) → of lanes o → ((all : List Aligned) → AreAllItems value.settings lanes all → (rest : List Aligned) × (all ≡ h.items ++ rest)) → Told was later (HoldsPart o.files)
      part_by lanes o k firsts =
          let (rest, all) = firsts k.items k.are_items in
          let part = items_part out h.items rest was later h.part in
          subst (λ (x : Outcome). Told was later (HoldsPart x.files)) (sym k.is)
          (subst (λ p. Told was later (HoldsPart (outs (gathered_names p) (gathered_contents k.items)))) prefixed
          (subst (λ (is : List Aligned). Told was later (HoldsPart (outs (gathered_names out) (gathered_contents is)))) (sym all) part))

  -- the outputs were not opened
  pub unopened : (why : Stop) (later : Option Files) → IsCutShort out [] why was later → Ends plan was (Err why) later
  unopened why later h = broken why later (cut_broken out value.settings first first Are names why was later (λ lanes are begin. begin) (record { items = []; stopped = h; first = λ lanes all begin are. (all, refl) }))

  -- no output is a lane
  pub no_output : (g : Gatherer) (now : Option Files) → IsGathering out value.settings first g was now → (q : List ℕ) → Contains names q → Contains (open_names g.gathered.files.outputs) q → ⊥
  no_output g now at q among output =
      apart out plan.link.lanes at.stands.link.lanes.1 q (subst (λ p. Contains (lane_names p plan.link.lanes) q) (sym prefixed) (subst (λ ns. Contains ns q) named among))
      (subst (λ ns. Contains ns q) at.gathered.files.names output)

  -- all came, and was written or stopped
  module _ (g : Gatherer) (now : Option Files) (h : AllTaken out value.settings first Are g was now) (reports : List LaneReport) (count : length reports ≡ value.settings.lanes)
      (each : (s : Settings) (fed : List Fed) (items : List Aligned) (t : Progress) → front.Stands g.front s fed items t → (lane : ℕ) (report : LaneReport) → slice_get reports lane ≡ Some report → IsReportOf s t.rounds lane fed report) where
    abbrev the : Outcome
    the = gathered_outcome value.out (lane_lines 0 reports) h.taken.items

    is_gathered : (lanes : List (List ℕ)) → AllBegin h.fed lanes → of lanes the
    is_gathered lanes from = record {
      link = h.taken.stands.link;
      items = h.taken.items;
      are_items = all_come out value.settings lanes h.fed g was now h.taken h.over from;
      reports = reports;
      are_reports = all_reported out value.settings lanes h.fed g was now h.taken h.over from reports count each;
      is = refl;
    }

    pub written : (text : List ℕ) (result : Result Finished Stop) (later : Option Files) → text ≡ lane_lines 0 reports → Writes (λ o. o ≡ gathered_outcome out text h.taken.items) (gathered_names out) result was later → Ends plan was result later
    written text result later is writes =
        let here = subst (λ p. Writes (λ o. o ≡ gathered_outcome p text h.taken.items) (gathered_names p) result was later) prefixed writes in
        let lined = subst (λ (t : List ℕ). Writes (λ o. o ≡ gathered_outcome value.out t h.taken.items) (gathered_names value.out) result was later) is here in
        record {
          fills = if_told_by was (λ files so lanes e.
              let (are, begin) = so lanes e in
              let made : of lanes the = is_gathered lanes (h.from lanes are begin) in
              fills_more (of lanes) (gathered_names value.out) (names_of_lanes value) result was later
              (one_writes (of lanes) (gathered_names value.out) the made (λ p k. one_gathered (record { plan = value; lanes = lanes }) p the k made) result was later lined).fills) begun;
          others = lined.others;
        }

-- `receive`: what its lanes come to.
use Rattle.std.proofs.Common.{◌≡◌, ℕ, ◌<◌, false, List, [], ◌++◌, length, map, slice_get, refl, sym, ap, ap₂, ◌∙◌, subst, arith, inl, inr, ◌⊎◌, Option, Some, None, IfSome, Result, Ok, Err, Contains}
use Rattle.std.proofs.lemmas.List.Elements.{Contains-append_left, Contains-append_right}
use Rattle.lk_base.specs.Link.{IsLink}
use Rattle.lk_outside.specs.Files.{Files, Told}
use Rattle.lock_model.specs.declared.types.LaneReport.{LaneReport}
use Rattle.receive_model.specs.Events.{Event, Setting}
use Rattle.event_model.specs.Fed.{AllBegin, Fed}
use Rattle.event_model.specs.Given.{AreEvents}
use Rattle.event_model.proofs.KnownEvents.{events_are_determined, events_exist}
use Rattle.rx_front.specs.Calls.{IsReportOf}
use Rattle.rx_end.specs.Standing.{Stands}
use Rattle.rx_end.specs.States.{State}
use Rattle.link_plan.specs.Plan.{PlanValue}
use Rattle.plan_inputs.specs.Inputs.{plan_in}
use Rattle.plan_inputs.proofs.SomeSource.{plan_limits}
use Rattle.run_stops.specs.declared.stop.Stop.{Stop}
use Rattle.run_stops.specs.declared.stop.Stop.TheVariants as stop
use Rattle.run_shell.specs.declared.finished.Finished.{Finished}
use Rattle.run_shell.specs.Outcome.{Output, Outcome, HoldsPart, LeavesOthers}
use Rattle.run_shell.specs.Meaning.{IsMeaning}
use Rattle.run_stops.specs.Stops.{IsOfStore}
use Rattle.run_shell.specs.Ends.{held_status}
use Rattle.run_shell.specs.Work.{IsWork}
use Rattle.run_shell.specs.Writing.{Fills, Writes}
use Rattle.run_stops.proofs.Moves.{if_told_by}
use Rattle.run_stops.proofs.Readings.{behind_ok}
use Rattle.run_shell.proofs.Works.{is_meaning}
use Rattle.run_shell.proofs.Writing.{none_writes, one_writes, part_leaves}
use Rattle.receipts.specs.declared.receipt.Receipt.{Receipt}
use Rattle.receipts.specs.Received.{output_names, received_files, received_outcome, received_text}
use Rattle.receipts.specs.Receipts.{Beginning, IsStopped, closed_outcome, given_of, names_of}
use Rattle.receipts.specs.Settings.{IsSettingOf, plan_names}
use Rattle.lane_receipts.specs.LaneReports.{AreLaneReports, lane_lines, names_of_lanes}
use Rattle.receive_commands.specs.Receive.{IsReceived, PlanLanes, lanes_in, plan_lanes_in, receive_meaning, receive_work, with_lanes}
use Rattle.lane_receipts.specs.Taking.{AllTaken, IsBroken}
use Rattle.receipts.proofs.Settings.{plan_setting, is_the_setting, the_setting}
use Rattle.lane_receipts.proofs.Reports.{reports_are, same_reports, some_reports}
use Rattle.receipts.proofs.Making.{stopped_writes}
use Rattle.lane_receipts.proofs.HeldLanes.{all_come, all_reported}
use Rattle.lane_receipts.proofs.TakenLanes.{widened}
use Rattle.receive_commands.proofs.OpenFiles.{lanes_count}

-- ---- the work

same_events : (i : PlanLanes) (setting other : Setting) (one two : List Event) → IsLink i.plan.settings → setting ≡ other → AreEvents i.plan.settings setting i.lanes one → AreEvents i.plan.settings other i.lanes two → one ≡ two
same_events i setting other one two link e h k =
    events_are_determined i.plan.settings other i.lanes link.deskew_below_half one two (subst (λ (x : Setting). AreEvents i.plan.settings x i.lanes one) e h) k

pub one_received : (i : PlanLanes) (o p : Outcome) → IsReceived i o → IsReceived i p → o ≡ p
one_received i o p h k =
    let e = plan_setting i.plan h.setting k.setting h.is_setting k.is_setting in
    let f = same_events i h.setting k.setting h.events k.events h.link e h.are_events k.are_events in
    let g = same_reports i.plan.settings i.lanes h.reports k.reports h.are_reports k.are_reports in
    h.is ∙ ap (λ (x : Setting). received_outcome x i.plan.link_type i.plan.out (lane_lines 0 h.reports) h.events) e
    ∙ ap (λ (x : List LaneReport). received_outcome k.setting i.plan.link_type i.plan.out (lane_lines 0 x) h.events) g
    ∙ ap (λ (x : List Event). received_outcome k.setting i.plan.link_type i.plan.out (lane_lines 0 k.reports) x) f ∙ sym k.is

some_received : (plan : PlanValue) (lanes : List (List ℕ)) → IsLink plan.settings → 0 < length lanes → (o : Outcome) × IsReceived (record { plan = plan; lanes = lanes }) o
some_received plan lanes link some =
    let setting = the_setting plan in
    let long = link.metaframe.0 in
    let (events, are) = events_exist plan.settings setting lanes (omega (arith, long)) some in
    let (reports, reported) = some_reports plan.settings lanes in (
      received_outcome setting plan.link_type plan.out (lane_lines 0 reports) events,
      record { link = link; setting = setting; is_setting = is_the_setting plan; events = events; are_events = are; reports = reports; are_reports = reported; is = refl },
    )

-- a plan and its lanes that were read: the plan keeps its limits, and there is a lane
pub link_read : (files : Files) (name : List ℕ) (i : PlanLanes) → plan_lanes_in files name ≡ Ok i → IsLink i.plan.settings × (0 < length i.lanes)
link_read files name i e =
    let (plan, had, more) = behind_ok (plan_in files name) (with_lanes files) i e in
    let (lanes, got, is) = behind_ok (lanes_in files (names_of_lanes plan)) (λ ls. Ok (record { plan = plan; lanes = ls })) i more in
    let same : record { plan = plan; lanes = lanes } ≡ i = cc in
    let link = plan_limits files name plan had in
    let low = link.lanes.0 in
    let count = lanes_count files plan.out plan.settings.lanes lanes got in
    subst (λ (j : PlanLanes). IsLink j.plan.settings × (0 < length j.lanes)) same (link, omega (arith, low, count))

lanes_there : (files : Files) (name : List ℕ) (i : PlanLanes) → plan_lanes_in files name ≡ Ok i → (o : Outcome) × IsReceived i o
lanes_there files name i e = let (link, some) = link_read files name i e in some_received i.plan i.lanes link some

work : (name : List ℕ) → IsWork (receive_work name)
work name = record {
  one_made = one_received;
  some_made = λ files bytes i is. lanes_there files name i is;
  made_status = λ i o h. inr (ap (λ (p : Outcome). p.status) h.is, λ x. x);
}

pub receive_means : (name : List ℕ) → IsMeaning (receive_meaning name)
receive_means name = is_meaning (receive_work name) (work name)

-- ---- more names

pub fills_more : (of : Outcome → Type 0) (ns ms : List (List ℕ)) (r : Result Finished Stop) (x y : Option Files) → Fills of ns r x y → Fills of (ns ++ ms) r x y
fills_more of ns ms (Ok f) x y h = h
fills_more of ns ms (Err s) x y h = record { by_store = widened (Contains ns) (Contains (ns ++ ms)) s (Contains-append_left ns ms) h.by_store; part = h.part }

-- ---- what came of the lanes

module _ (plan : PlanValue) (b : Beginning) (is_setting : IsSettingOf plan b.setting) (typed : b.link_type ≡ plan.link_type) (named : b.prefix ≡ plan.out) (none : b.ahead ≡ []) where
  abbrev lane_files : List (List ℕ)
  lane_files = names_of_lanes plan

  abbrev Comes : Result Finished Stop → Option Files → Type 0
  Comes r later = IfSome b.was (λ files. (lanes : List (List ℕ)) → lanes_in files lane_files ≡ Ok lanes → Fills (IsReceived (record { plan = plan; lanes = lanes })) (plan_names plan ++ lane_files) r b.was later)

  abbrev Leaves : Option Files → Type 0
  Leaves later = Told b.was later (LeavesOthers (λ files q. Contains (plan_names plan) q))

  names_are : names_of b ≡ plan_names plan
  names_are = ap (λ (os : List Output). map (λ (o : Output). o.name) os ++ output_names b.prefix b.setting.channels) none ∙ ap₂ output_names named is_setting.channels

  outcome_is : (before : List ℕ) (events : List Event) → closed_outcome b events false (before ++ received_text b.setting events) ≡ received_outcome b.setting plan.link_type plan.out before events
  outcome_is before events =
      ap (λ (os : List Output). record { status = held_status false; files = os ++ received_files b.setting b.link_type b.prefix events; text = before ++ received_text b.setting events }) none
      ∙ ap₂ (λ (t : ℕ) (p : List ℕ). received_outcome b.setting t p before events) typed named

  -- nothing was created
  pub none_fills : (s : Stop) → IsOfStore (Contains (plan_names plan)) s → Comes (Err s) b.was
  none_fills s store = always b.was (λ files lanes e. fills_more (IsReceived (record { plan = plan; lanes = lanes })) (plan_names plan) lane_files (Err s) b.was b.was (none_writes (IsReceived (record { plan = plan; lanes = lanes })) (plan_names plan) s b.was store).fills)
    where
      always : {P : Files → Type 0} (x : Option Files) → ((files : Files) → P files) → IfSome x P
      always None f = tt
      always (Some files) f = f files

  pub written_leaves : (of : Outcome → Type 0) (result : Result Finished Stop) (later : Option Files) → Writes of (names_of b) result b.was later → Leaves later
  written_leaves of result later writes = subst (λ ns. Told b.was later (LeavesOthers (λ files q. Contains ns q))) names_are writes.others

  module _ (first : List Fed) (Are : List (List ℕ) → Type 0) (begin : IfSome b.was (λ files. (lanes : List (List ℕ)) → lanes_in files lane_files ≡ Ok lanes → Are lanes × AllBegin first lanes)) (names : List (List ℕ)) (same : names ≡ lane_files) where
    store_by : (why : Stop) → IsOfStore (λ q. Contains (names_of b) q ⊎ Contains names q) why → IsOfStore (Contains (plan_names plan ++ lane_files)) why
    store_by why = widened (λ q. Contains (names_of b) q ⊎ Contains names q) (Contains (plan_names plan ++ lane_files)) why among
      where
        among : (q : List ℕ) → Contains (names_of b) q ⊎ Contains names q → Contains (plan_names plan ++ lane_files) q
        among q (inl h) = Contains-append_left (plan_names plan) lane_files q (subst (λ ns. Contains ns q) names_are h)
        among q (inr h) = Contains-append_right (plan_names plan) lane_files q (subst (λ ns. Contains ns q) same h)

    -- what an early stop fills: a part of what some first events come to
    pub broken_fills : (why : Stop) (later : Option Files) → IsBroken b plan.settings first Are names why later → Comes (Err why) later
    broken_fills why later h =
        if_told_by b.was (λ files so lanes e.
        let (are, begun) = so lanes e in
        let stops = h.stops lanes are begun in
        record { by_store = store_by why stops.by_store; part = λ o k. part_by lanes o k stops.first }) begin
      where
        part_by : (lanes : List (List ℕ)) (o : Outcome) → IsReceived (record { plan = plan; lanes = lanes }) o → ((all : List Event) → AreEvents plan.settings b.setting lanes all → (rest : List Event) × (all ≡ h.came ++ rest)) → Told b.was later (HoldsPart o.files)
        part_by lanes o k firsts =
            let e : k.setting ≡ b.setting = plan_setting plan k.setting b.setting k.is_setting is_setting in
            let (rest, all) = firsts k.events (subst (λ (x : Setting). AreEvents plan.settings x lanes k.events) e k.are_events) in
            let stopped : IsStopped b k.events stop.OutOfMemory later = record { by_store = tt; came = h.came; rest = rest; all = all; part = h.part } in
            (stopped_writes b k.events false (lane_lines 0 k.reports ++ received_text b.setting k.events) stop.OutOfMemory later stopped).fills.part o
            (k.is ∙ ap (λ (x : Setting). received_outcome x plan.link_type plan.out (lane_lines 0 k.reports) k.events) e ∙ sym (outcome_is (lane_lines 0 k.reports) k.events))

    pub broken_leaves : (why : Stop) (later : Option Files) → IsBroken b plan.settings first Are names why later → Leaves later
    broken_leaves why later h = subst (λ ns. Told b.was later (LeavesOthers (λ files q. Contains ns q))) names_are (part_leaves (names_of b) (given_of b h.came) b.was later h.part)

    module _ (r : State) (kept : Receipt) (now : Option Files) (h : AllTaken b plan.settings first Are r kept now) (reports : List LaneReport) (count : length reports ≡ plan.settings.lanes)
        (each : (setting : Setting) (fed : List Fed) (given : List Event) (stands : Stands r plan.settings setting fed given) (lane : ℕ) (report : LaneReport) → slice_get reports lane ≡ Some report → IsReportOf plan.settings stands.progress.rounds lane fed report) where
      abbrev the : Outcome
      the = closed_outcome b h.given false (lane_lines 0 reports ++ received_text b.setting h.given)

      is_received : (lanes : List (List ℕ)) → AllBegin h.fed lanes → IsReceived (record { plan = plan; lanes = lanes }) the
      is_received lanes from = record {
        link = h.drained.taking.stands.front.link;
        setting = b.setting;
        is_setting = is_setting;
        events = h.given;
        are_events = all_come b plan.settings lanes h.fed h.given r kept now h.drained h.over from;
        reports = reports;
        are_reports = all_reported b plan.settings lanes h.fed h.given r kept now h.drained h.over from reports count each;
        is = outcome_is (lane_lines 0 reports) h.given;
      }

      -- all came, and was written or stopped
      pub received_fills : (text : List ℕ) (result : Result Finished Stop) (later : Option Files) → text ≡ lane_lines 0 reports → Writes (λ o. o ≡ closed_outcome b h.given false (text ++ received_text b.setting h.given)) (names_of b) result b.was later → Comes result later
      received_fills text result later is writes =
          if_told_by b.was (λ files so lanes e.
          let (are, begun) = so lanes e in
          let of = IsReceived (record { plan = plan; lanes = lanes }) in
          let made : of the = is_received lanes (h.from lanes are begun) in
          subst (λ ns. Fills of (ns ++ lane_files) result b.was later) names_are
          (fills_more of (names_of b) lane_files result b.was later
          (one_writes of (names_of b) the made (λ p k. one_received (record { plan = plan; lanes = lanes }) p the k made) result b.was later
          (subst (λ (t : List ℕ). Writes (λ o. o ≡ closed_outcome b h.given false (t ++ received_text b.setting h.given)) (names_of b) result b.was later) is writes)).fills)) begin

-- `gather`: what its lanes come to.
use Rattle.std.proofs.Common.{◌≡◌, ℕ, ◌*◌, ◌<◌, true, List, length, map, slice_get, refl, sym, ap, ◌∙◌, subst, arith, inr, Some, Option}
use Rattle.std.proofs.lemmas.List.{length-map}
use Rattle.lk_base.specs.Link.{IsLink, Settings}
use Rattle.lk_base.specs.declared.word.Aligned.{Aligned}
use Rattle.lk_outside.specs.Files.{Files}
use Rattle.lock_model.specs.declared.types.LaneReport.{LaneReport}
use Rattle.event_model.specs.Fed.{AllBegin, Fed, all_finished, clock_of, whole}
use Rattle.event_model.specs.Given.{AreItems}
use Rattle.event_model.proofs.Clocks.{AreShort, short_at_end}
use Rattle.event_model.proofs.KnownItems.{items_are_determined, items_exist}
use Rattle.rx_front.specs.Calls.{IsReportOf}
use Rattle.rx_front.specs.Standing as front
use Rattle.rx_front.specs.Standing.{Progress}
use Rattle.rx_end.proofs.Pieces.{wholes}
use Rattle.run_shell.specs.Outcome.{Outcome}
use Rattle.run_shell.specs.Meaning.{IsMeaning}
use Rattle.run_shell.specs.Work.{IsWork}
use Rattle.run_shell.proofs.Works.{is_meaning}
use Rattle.lane_receipts.specs.LaneReports.{AreLaneReports, lane_lines}
use Rattle.lane_receipts.proofs.HeldLanes.{whole_held}
use Rattle.lane_receipts.proofs.Reports.{reports_are, same_reports, some_reports}
use Rattle.receive_commands.specs.Receive.{PlanLanes}
use Rattle.receive_commands.proofs.Receives.{link_read}
use Rattle.gather_commands.specs.declared.gatherer.Gatherer.{Gatherer}
use Rattle.gather_commands.specs.Table.{gathered_outcome}
use Rattle.lane_words.specs.Items.{AreAllItems}
use Rattle.gather_commands.specs.Taking.{HasTaken}
use Rattle.gather_commands.specs.Gather.{IsGathered, gather_meaning, gather_work}

-- ---- the work

same_items : (s : Settings) (lanes : List (List ℕ)) (one other : List Aligned) → IsLink s → AreAllItems s lanes one → AreAllItems s lanes other → one ≡ other
same_items s lanes one other link a b = items_are_determined s (clock_of (map whole lanes)) (map whole lanes) link.deskew_below_half (omega arith) one other a b

pub one_gathered : (i : PlanLanes) (o p : Outcome) → IsGathered i o → IsGathered i p → o ≡ p
one_gathered i o p h k =
    let f = same_items i.plan.settings i.lanes h.items k.items h.link h.are_items k.are_items in
    let g = same_reports i.plan.settings i.lanes h.reports k.reports h.are_reports k.are_reports in
    h.is ∙ ap (λ (x : List LaneReport). gathered_outcome i.plan.out (lane_lines 0 x) h.items) g
    ∙ ap (λ (x : List Aligned). gathered_outcome i.plan.out (lane_lines 0 k.reports) x) f ∙ sym k.is

some_gathered : (i : PlanLanes) → IsLink i.plan.settings → 0 < length i.lanes → (o : Outcome) × IsGathered i o
some_gathered i link some =
    let long = link.metaframe.0 in
    let count = length-map i.lanes whole in
    let (items, are) = items_exist i.plan.settings (clock_of (map whole i.lanes)) (map whole i.lanes) (omega (arith, long)) (omega (arith, some, count)) in
    let (reports, reported) = some_reports i.plan.settings i.lanes in (
      gathered_outcome i.plan.out (lane_lines 0 reports) items,
      record { link = link; items = items; are_items = are; reports = reports; are_reports = reported; is = refl },
    )

pub is_work : (name : List ℕ) → IsWork (gather_work name)
is_work name = record {
  one_made = one_gathered;
  some_made = λ files bytes i is. let (link, some) = link_read files name i is in some_gathered i link some;
  made_status = λ i o h. inr (ap (λ (p : Outcome). p.status) h.is, λ x. x);
}

pub gather_means : (name : List ℕ) → IsMeaning (gather_meaning name)
gather_means name = is_meaning (gather_work name) (is_work name)

-- ---- what came of the lanes

-- all of the lanes was fed: these are all of their items, and the reports are those of the lanes
module _ (out : List ℕ) (s : Settings) (lanes : List (List ℕ)) (fed : List Fed) (g : Gatherer) (was now : Option Files) (taken : HasTaken out s fed g was now) (over : all_finished fed ≡ true) (from : AllBegin fed lanes) where
  fed_whole : map whole lanes ≡ fed
  fed_whole = ap (λ (ls : List (List ℕ)). map whole ls) (sym (whole_held lanes fed from over)) ∙ wholes fed over

  pub all_come : AreAllItems s lanes taken.items
  all_come =
      let st = taken.stands in
      let low = st.link.lanes.0 in
      let long = st.link.metaframe.0 in
      let count = st.lane_count in
      let (known, are) = items_exist s (clock_of fed) fed (omega (arith, long)) (omega (arith, low, count)) in
      subst (λ (f : List Fed). AreItems s (clock_of f) f taken.items) (sym fed_whole) (subst (λ (is : List Aligned). AreItems s (clock_of fed) fed is) (taken.all known are) are)

  pub all_reported : (reports : List LaneReport) → length reports ≡ s.lanes
      → ((s : Settings) (fed : List Fed) (items : List Aligned) (t : Progress) → front.Stands g.front s fed items t → (lane : ℕ) (report : LaneReport) → slice_get reports lane ≡ Some report → IsReportOf s t.rounds lane fed report) → AreLaneReports s lanes reports
  all_reported reports count each =
      let st = taken.stands in
      let short : AreShort (8 * taken.progress.rounds) fed = subst (λ (n : ℕ). AreShort (8 * n) fed) (sym taken.rounds) (short_at_end fed over) in
      subst (λ (ls : List (List ℕ)). AreLaneReports s ls reports) (whole_held lanes fed from over) (reports_are s taken.progress.rounds fed reports (count ∙ sym st.lane_count) short (each s fed taken.items taken.progress st))

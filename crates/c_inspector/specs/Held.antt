-- What a call does by a handle of an inspector.
use Rattle.std.specs.Prelude.{ℕ, ◌≡◌, List, Option, Some, None, Result, Ok, Err}
use Rattle.csv_rows.specs.Rows.{rows_of}
use Rattle.plan_errors.specs.declared.error.PlanError.{PlanError}
use Rattle.link_plan.specs.Plan.{plan_of}
use Rattle.link_plan.specs.Views.{GivesPlan}
use Rattle.link_plan.specs.declared.plan.Plan.{Plan}
use Rattle.lock_model.specs.declared.types.LaneReport.{LaneReport}
use Rattle.live_inspector.specs.Calls.{AreFresh, FeedsLane, FinishesLane, IsNext, IsReportOf}
use Rattle.live_inspector.specs.Lanes.{Lane}
use Rattle.live_inspector.specs.declared.misuse.Misuse.{Misuse}
use Rattle.live_inspector.specs.declared.types.LiveEvent.{LiveEvent}
use Rattle.lk_base.specs.Checksum.{bits_of}
use Rattle.c_bits.specs.Bits.{AreFed, OfBits, OfWhole, no_parts}
use Rattle.c_inspector.specs.declared.bit_inspector.BitInspector.{BitInspector}
use Rattle.c_parts.specs.Codes.{done, in_use, no_inspector, out_of_range, part_byte, plan_code}
use Rattle.c_parts.specs.OnHeld.{OnHeld}
use Rattle.c_parts.specs.Refusals.{IsRefused, of_row, refusal_of}
use Rattle.c_parts.specs.Reports.{as_report, no_report}
use Rattle.c_parts.specs.declared.refusal.Refusal.{Refusal}
use Rattle.c_parts.specs.declared.report.Report.{Report}
use Rattle.c_inspector.specs.Codes.{misuse_code}
use Rattle.c_inspector.specs.Shown.{shown}
use Rattle.c_inspector.specs.declared.event.CLaneEvent.{CLaneEvent}

-- a count is given if the call did what it was asked, else 0
abbrev pub GivesCount : Result ℕ Misuse → ℕ → ℕ → Type 0
GivesCount (Ok n) code count = (code ≡ done) × (count ≡ n)
GivesCount (Err why) code count = (code ≡ misuse_code why) × (count ≡ 0)

abbrev pub GivesCode : Result (Unit {0}) Misuse → ℕ → Type 0
GivesCode (Ok u) code = code ≡ done
GivesCode (Err why) code = code ≡ misuse_code why

abbrev pub GivesReport : Result LaneReport Misuse → ℕ → Report → Type 0
GivesReport (Ok found) code report = (code ≡ done) × (report ≡ as_report found)
GivesReport (Err why) code report = (code ≡ misuse_code why) × (report ≡ no_report)

-- ---- the calls

-- lanes of the link of the plan of these bytes, to which nothing happened
abbrev pub IsOfPlan : List ℕ → List Lane → Type 0
IsOfPlan bytes lanes = (plan : Plan) × GivesPlan (Ok plan) (plan_of (rows_of bytes)) × AreFresh plan.link lanes

-- an inspector of the plan of these bytes, with no part of a byte
abbrev pub IsMade : List ℕ → BitInspector → Type 0
IsMade plan s = IsOfPlan plan s.lanes × (s.parts ≡ no_parts)

-- an inspector of the plan is made, or the plan is refused so, or memory ran out
abbrev pub Opens : List ℕ → Option BitInspector → ℕ → Refusal → Type 0
Opens plan (Some s) code refusal = IsMade plan s × (code ≡ done) × (refusal ≡ of_row 0 0)
Opens plan None code refusal = (why : PlanError) × IsRefused plan why × (code ≡ plan_code why) × (refusal ≡ refusal_of why)

-- a handle that has an inspector keeps it
abbrev pub Makes : Option BitInspector → Option BitInspector → List ℕ → ℕ → Refusal → Type 0
Makes None new plan code refusal = Opens plan new code refusal
Makes (Some s) new plan code refusal = (new ≡ Some s) × (code ≡ in_use) × (refusal ≡ of_row 0 0)

-- afterwards there is no inspector
abbrev pub Frees : Option BitInspector → Option BitInspector → ℕ → Type 0
Frees None new code = (new ≡ None) × (code ≡ no_inspector)
Frees (Some s) new code = (new ≡ None) × (code ≡ done)

-- a lane with a part of a byte takes no whole byte, and nothing changes
abbrev pub FeedsWhole : BitInspector → BitInspector → ℕ → List ℕ → ℕ → ℕ → Type 0
FeedsWhole s t lane bytes code taken = OfWhole lane s.parts ((code ≡ part_byte) × (taken ≡ 0) × (t ≡ s))
    ((result : Result ℕ Misuse) × FeedsLane s.lanes t.lanes lane bytes result × GivesCount result code taken × (t.parts ≡ s.parts))

abbrev pub Feeds : Option BitInspector → Option BitInspector → ℕ → List ℕ → ℕ → ℕ → Type 0
Feeds old new lane bytes code taken = OnHeld ((code ≡ no_inspector) × (taken ≡ 0)) (λ (s t : BitInspector). FeedsWhole s t lane bytes code taken) old new

-- a lane is fed with bits: with the bytes that they complete; more than 64 are refused, and nothing changes
abbrev pub FeedsCompleted : BitInspector → BitInspector → ℕ → ℕ → ℕ → ℕ → ℕ → Type 0
FeedsCompleted s t lane bits count code taken = OfBits count ((code ≡ out_of_range) × (taken ≡ 0) × (t ≡ s))
    ((result : Result ℕ Misuse) × AreFed (λ bytes answer. FeedsLane s.lanes t.lanes lane bytes answer) s.parts t.parts lane (bits_of count bits) result × GivesCount result code taken)

abbrev pub FeedsBits : Option BitInspector → Option BitInspector → ℕ → ℕ → ℕ → ℕ → ℕ → Type 0
FeedsBits old new lane bits count code taken =
    OnHeld ((code ≡ no_inspector) × (taken ≡ 0)) (λ (s t : BitInspector). FeedsCompleted s t lane bits count code taken) old new

-- a lane with a part of a byte is not finished, and nothing changes
abbrev pub FinishesWhole : BitInspector → BitInspector → ℕ → ℕ → Type 0
FinishesWhole s t lane code = OfWhole lane s.parts ((code ≡ part_byte) × (t ≡ s))
    ((result : Result (Unit {0}) Misuse) × FinishesLane s.lanes t.lanes lane result × GivesCode result code × (t.parts ≡ s.parts))

abbrev pub Finishes : Option BitInspector → Option BitInspector → ℕ → ℕ → Type 0
Finishes old new lane code = OnHeld (code ≡ no_inspector) (λ (s t : BitInspector). FinishesWhole s t lane code) old new

abbrev pub GivesEvent : Option BitInspector → Option BitInspector → ℕ → CLaneEvent → Type 0
GivesEvent old new code event =
    OnHeld ((code ≡ no_inspector) × (event ≡ shown None)) (λ (s t : BitInspector). (result : Option LiveEvent) × IsNext s.lanes t.lanes result × (code ≡ done) × (event ≡ shown result) × (t.parts ≡ s.parts)) old new

abbrev pub Reports : Option BitInspector → Option BitInspector → ℕ → ℕ → Report → Type 0
Reports old new lane code report =
    OnHeld ((code ≡ no_inspector) × (report ≡ no_report)) (λ (s t : BitInspector). (result : Result LaneReport Misuse) × IsReportOf s.lanes lane result × GivesReport result code report × (t ≡ s)) old new

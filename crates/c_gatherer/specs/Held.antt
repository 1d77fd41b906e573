-- What a call does by a handle of a gatherer.
use Rattle.std.specs.Prelude.{ℕ, ◌≡◌, List, [], Option, Some, None, Result, Ok, Err}
use Rattle.csv_rows.specs.Rows.{rows_of}
use Rattle.plan_errors.specs.declared.error.PlanError.{PlanError}
use Rattle.link_plan.specs.Plan.{plan_of}
use Rattle.link_plan.specs.Views.{GivesPlan}
use Rattle.link_plan.specs.declared.plan.Plan.{Plan}
use Rattle.lock_model.specs.declared.types.LaneReport.{LaneReport}
use Rattle.rx_front.specs.Calls.{nothing_fed}
use Rattle.live_gatherer.specs.Calls.{IsFeed, IsFinish, IsNext, IsReport}
use Rattle.live_gatherer.specs.Standing.{Stands}
use Rattle.live_gatherer.specs.declared.gatherer.LiveGatherer.{LiveGatherer}
use Rattle.live_gatherer.specs.declared.misuse.Misuse.{Misuse}
use Rattle.live_gatherer.specs.declared.types.Gathered.{Gathered}
use Rattle.lk_base.specs.Checksum.{bits_of}
use Rattle.c_bits.specs.Bits.{AreFed, OfBits, OfWhole, no_parts}
use Rattle.c_gatherer.specs.declared.bit_gatherer.BitGatherer.{BitGatherer}
use Rattle.c_parts.specs.Codes.{done, in_use, no_gatherer, out_of_range, part_byte, plan_code}
use Rattle.c_parts.specs.OnHeld.{OnHeld}
use Rattle.c_parts.specs.Refusals.{IsRefused, of_row, refusal_of}
use Rattle.c_parts.specs.Reports.{as_report, no_report}
use Rattle.c_parts.specs.declared.refusal.Refusal.{Refusal}
use Rattle.c_parts.specs.declared.report.Report.{Report}
use Rattle.c_gatherer.specs.Codes.{misuse_code}
use Rattle.c_gatherer.specs.Many.{GivesMany}
use Rattle.c_gatherer.specs.Shown.{shown}
use Rattle.c_gatherer.specs.declared.gathered.CGathered.{CGathered}

-- a count is given if the call did what it was asked, else 0
abbrev pub GivesCount : Result ℕ Misuse → ℕ → ℕ → Type 0
GivesCount (Ok n) code count = (code ≡ done) × (count ≡ n)
GivesCount (Err why) code count = (code ≡ misuse_code why) × (count ≡ 0)

abbrev pub GivesCode : Result (Unit {0}) Misuse → ℕ → Type 0
GivesCode (Ok u) code = code ≡ done
GivesCode (Err why) code = code ≡ misuse_code why

abbrev pub GivesReport : Result LaneReport Misuse → ℕ → Report → Type 0
GivesReport (Ok found) code report = (code ≡ done) × (report ≡ as_report found)
GivesReport (Err why) code report = (code ≡ misuse_code why) × (report ≡ no_report)

-- ---- the calls

-- a gatherer of the lanes of the plan of these bytes, of which nothing was fed
abbrev pub IsOfPlan : List ℕ → LiveGatherer → Type 0
IsOfPlan bytes g = (plan : Plan) × GivesPlan (Ok plan) (plan_of (rows_of bytes)) × Stands g plan.link (nothing_fed plan.link.lanes) []

-- a gatherer of the plan of these bytes, with no part of a byte
abbrev pub IsMade : List ℕ → BitGatherer → Type 0
IsMade plan s = IsOfPlan plan s.lanes × (s.parts ≡ no_parts)

-- a gatherer of the plan is made, or the plan is refused so, or memory ran out
abbrev pub Opens : List ℕ → Option BitGatherer → ℕ → Refusal → Type 0
Opens plan (Some s) code refusal = IsMade plan s × (code ≡ done) × (refusal ≡ of_row 0 0)
Opens plan None code refusal = (why : PlanError) × IsRefused plan why × (code ≡ plan_code why) × (refusal ≡ refusal_of why)

-- a handle that has a gatherer keeps it
abbrev pub Makes : Option BitGatherer → Option BitGatherer → List ℕ → ℕ → Refusal → Type 0
Makes None new plan code refusal = Opens plan new code refusal
Makes (Some s) new plan code refusal = (new ≡ Some s) × (code ≡ in_use) × (refusal ≡ of_row 0 0)

-- afterwards there is no gatherer
abbrev pub Frees : Option BitGatherer → Option BitGatherer → ℕ → Type 0
Frees None new code = (new ≡ None) × (code ≡ no_gatherer)
Frees (Some s) new code = (new ≡ None) × (code ≡ done)

-- a lane with a part of a byte takes no whole byte, and nothing changes
abbrev pub FeedsWhole : BitGatherer → BitGatherer → ℕ → List ℕ → ℕ → ℕ → Type 0
FeedsWhole s t lane bytes code taken = OfWhole lane s.parts ((code ≡ part_byte) × (taken ≡ 0) × (t ≡ s))
    ((result : Result ℕ Misuse) × IsFeed s.lanes t.lanes lane bytes result × GivesCount result code taken × (t.parts ≡ s.parts))

abbrev pub Feeds : Option BitGatherer → Option BitGatherer → ℕ → List ℕ → ℕ → ℕ → Type 0
Feeds old new lane bytes code taken = OnHeld ((code ≡ no_gatherer) × (taken ≡ 0)) (λ (s t : BitGatherer). FeedsWhole s t lane bytes code taken) old new

-- a lane is fed with bits: with the bytes that they complete; more than 64 are refused, and nothing changes
abbrev pub FeedsCompleted : BitGatherer → BitGatherer → ℕ → ℕ → ℕ → ℕ → ℕ → Type 0
FeedsCompleted s t lane bits count code taken = OfBits count ((code ≡ out_of_range) × (taken ≡ 0) × (t ≡ s))
    ((result : Result ℕ Misuse) × AreFed (λ bytes answer. IsFeed s.lanes t.lanes lane bytes answer) s.parts t.parts lane (bits_of count bits) result × GivesCount result code taken)

abbrev pub FeedsBits : Option BitGatherer → Option BitGatherer → ℕ → ℕ → ℕ → ℕ → ℕ → Type 0
FeedsBits old new lane bits count code taken =
    OnHeld ((code ≡ no_gatherer) × (taken ≡ 0)) (λ (s t : BitGatherer). FeedsCompleted s t lane bits count code taken) old new

-- a lane with a part of a byte is not finished, and nothing changes
abbrev pub FinishesWhole : BitGatherer → BitGatherer → ℕ → ℕ → Type 0
FinishesWhole s t lane code = OfWhole lane s.parts ((code ≡ part_byte) × (t ≡ s))
    ((result : Result (Unit {0}) Misuse) × IsFinish s.lanes t.lanes lane result × GivesCode result code × (t.parts ≡ s.parts))

abbrev pub Finishes : Option BitGatherer → Option BitGatherer → ℕ → ℕ → Type 0
Finishes old new lane code = OnHeld (code ≡ no_gatherer) (λ (s t : BitGatherer). FinishesWhole s t lane code) old new

abbrev pub GivesNext : Option BitGatherer → Option BitGatherer → ℕ → CGathered → Type 0
GivesNext old new code given =
    OnHeld ((code ≡ no_gatherer) × (given ≡ shown None)) (λ (s t : BitGatherer). (result : Option Gathered) × IsNext s.lanes t.lanes result × (code ≡ done) × (given ≡ shown result) × (t.parts ≡ s.parts)) old new

-- many calls of `next` at once; none is asked where there is no room
abbrev pub GivesNexts : Option BitGatherer → Option BitGatherer → List CGathered → List CGathered → ℕ → ℕ → Type 0
GivesNexts old new before after code count =
    OnHeld ((code ≡ no_gatherer) × (count ≡ 0) × (after ≡ before)) (λ (s t : BitGatherer). GivesMany s.lanes t.lanes before after count × (code ≡ done) × (t.parts ≡ s.parts)) old new

abbrev pub Reports : Option BitGatherer → Option BitGatherer → ℕ → ℕ → Report → Type 0
Reports old new lane code report =
    OnHeld ((code ≡ no_gatherer) × (report ≡ no_report)) (λ (s t : BitGatherer). (result : Result LaneReport Misuse) × IsReport s.lanes lane result × GivesReport result code report × (t ≡ s)) old new

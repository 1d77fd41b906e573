-- What a call does by a handle.
use Rattle.std.specs.Prelude.{ℕ, ◌≡◌, Bool, List, Option, Some, None, Result, Ok, Err}
use Rattle.lk_base.specs.Checksum.{bits_of, digit}
use Rattle.lock_model.specs.declared.types.LaneReport.{LaneReport}
use Rattle.lock_model.specs.declared.types.LaneState.{LaneState}
use Rattle.rx_end.specs.declared.event.RxEvent.{RxEvent}
use Rattle.live_receiver.specs.Calls.{IsChannelState, IsFeed, IsFinish, IsLaneState, IsNextOf, IsRead, IsReport}
use Rattle.plan_errors.specs.declared.error.PlanError.{PlanError}
use Rattle.c_parts.specs.Codes.{code_of, done, in_use, no_channel, no_receiver, out_of_range, part_byte, plan_code, state_code}
use Rattle.c_bits.specs.Bits.{AreFed, OfBits, OfWhole, no_parts}
use Rattle.c_parts.specs.OnHeld.{OnHeld}
use Rattle.live_receiver.specs.Opens.{IsOfPlan}
use Rattle.c_parts.specs.Refusals.{IsRefused, of_row, refusal_of}
use Rattle.c_parts.specs.declared.refusal.Refusal.{Refusal}
use Rattle.c_parts.specs.Reports.{as_report, no_report}
use Rattle.c_receiver.specs.Shown.{shown}
use Rattle.c_receiver.specs.declared.event.CEvent.{CEvent}
use Rattle.c_parts.specs.declared.report.Report.{Report}
use Rattle.c_parts.specs.declared.misuse.Misuse.{Misuse}
use Rattle.c_receiver.specs.declared.bit_receiver.BitReceiver.{BitReceiver}

-- a count is given where the call did what it was asked, else 0
abbrev pub GivesCount : Result ℕ Misuse → ℕ → ℕ → Type 0
GivesCount (Ok n) code count = (code ≡ done) × (count ≡ n)
GivesCount (Err why) code count = (code ≡ code_of why) × (count ≡ 0)

abbrev pub GivesCode : Result (Unit {0}) Misuse → ℕ → Type 0
GivesCode (Ok u) code = code ≡ done
GivesCode (Err why) code = code ≡ code_of why

abbrev pub GivesReport : Result LaneReport Misuse → ℕ → Report → Type 0
GivesReport (Ok found) code report = (code ≡ done) × (report ≡ as_report found)
GivesReport (Err why) code report = (code ≡ code_of why) × (report ≡ no_report)

-- a lane's state is given where the call did what it was asked, else 0
abbrev pub GivesState : Result LaneState Misuse → ℕ → ℕ → Type 0
GivesState (Ok found) code state = (code ≡ done) × (state ≡ state_code found)
GivesState (Err why) code state = (code ≡ code_of why) × (state ≡ 0)

-- 1 where the channel is on, else 0; 0 where it is not listed
abbrev pub GivesOn : Option Bool → ℕ → ℕ → Type 0
GivesOn (Some on) code told = (code ≡ done) × (told ≡ digit on)
GivesOn None code told = (code ≡ no_channel) × (told ≡ 0)

-- ---- the calls

-- a receiver of the plan of these bytes, with no part of a byte
abbrev pub IsMade : List ℕ → BitReceiver → Type 0
IsMade plan s = IsOfPlan plan s.session × (s.parts ≡ no_parts)

-- a receiver of the plan is made, or the plan is refused so, or memory ran out
abbrev pub Opens : List ℕ → Option BitReceiver → ℕ → Refusal → Type 0
Opens plan (Some s) code refusal = IsMade plan s × (code ≡ done) × (refusal ≡ of_row 0 0)
Opens plan None code refusal = (why : PlanError) × IsRefused plan why × (code ≡ plan_code why) × (refusal ≡ refusal_of why)

-- a handle that has a receiver keeps it
abbrev pub Makes : Option BitReceiver → Option BitReceiver → List ℕ → ℕ → Refusal → Type 0
Makes None new plan code refusal = Opens plan new code refusal
Makes (Some s) new plan code refusal = (new ≡ Some s) × (code ≡ in_use) × (refusal ≡ of_row 0 0)

-- afterwards there is no receiver
abbrev pub Frees : Option BitReceiver → Option BitReceiver → ℕ → Type 0
Frees None new code = (new ≡ None) × (code ≡ no_receiver)
Frees (Some s) new code = (new ≡ None) × (code ≡ done)

-- a lane with a part of a byte takes no whole byte, and nothing changes
abbrev pub FeedsWhole : BitReceiver → BitReceiver → ℕ → List ℕ → ℕ → ℕ → Type 0
FeedsWhole s t lane bytes code taken = OfWhole lane s.parts ((code ≡ part_byte) × (taken ≡ 0) × (t ≡ s))
    ((result : Result ℕ Misuse) × IsFeed s.session t.session lane bytes result × GivesCount result code taken × (t.parts ≡ s.parts))

abbrev pub Feeds : Option BitReceiver → Option BitReceiver → ℕ → List ℕ → ℕ → ℕ → Type 0
Feeds old new lane bytes code taken = OnHeld ((code ≡ no_receiver) × (taken ≡ 0)) (λ (s t : BitReceiver). FeedsWhole s t lane bytes code taken) old new

-- a lane is fed with bits: with the bytes that they complete; more than 64 are refused, and nothing changes
abbrev pub FeedsCompleted : BitReceiver → BitReceiver → ℕ → ℕ → ℕ → ℕ → ℕ → Type 0
FeedsCompleted s t lane bits count code taken = OfBits count ((code ≡ out_of_range) × (taken ≡ 0) × (t ≡ s))
    ((result : Result ℕ Misuse) × AreFed (λ bytes answer. IsFeed s.session t.session lane bytes answer) s.parts t.parts lane (bits_of count bits) result × GivesCount result code taken)

abbrev pub FeedsBits : Option BitReceiver → Option BitReceiver → ℕ → ℕ → ℕ → ℕ → ℕ → Type 0
FeedsBits old new lane bits count code taken =
    OnHeld ((code ≡ no_receiver) × (taken ≡ 0)) (λ (s t : BitReceiver). FeedsCompleted s t lane bits count code taken) old new

-- a lane with a part of a byte is not finished, and nothing changes
abbrev pub FinishesWhole : BitReceiver → BitReceiver → ℕ → ℕ → Type 0
FinishesWhole s t lane code = OfWhole lane s.parts ((code ≡ part_byte) × (t ≡ s))
    ((result : Result (Unit {0}) Misuse) × IsFinish s.session t.session lane result × GivesCode result code × (t.parts ≡ s.parts))

abbrev pub Finishes : Option BitReceiver → Option BitReceiver → ℕ → ℕ → Type 0
Finishes old new lane code = OnHeld (code ≡ no_receiver) (λ (s t : BitReceiver). FinishesWhole s t lane code) old new

abbrev pub GivesEvent : Option BitReceiver → Option BitReceiver → ℕ → CEvent → Type 0
GivesEvent old new code event =
    OnHeld ((code ≡ no_receiver) × (event ≡ shown None)) (λ (s t : BitReceiver). (result : Option RxEvent) × IsNextOf s.session t.session result × (code ≡ done) × (event ≡ shown result) × (t.parts ≡ s.parts)) old new

abbrev pub Reads : Option BitReceiver → Option BitReceiver → ℕ → List ℕ → List ℕ → ℕ → ℕ → Type 0
Reads old new offset before after code count =
    OnHeld ((code ≡ no_receiver) × (count ≡ 0) × (after ≡ before)) (λ (s t : BitReceiver). (result : Result ℕ Misuse) × IsRead s.session offset before after result × GivesCount result code count × (t ≡ s)) old new

abbrev pub Reports : Option BitReceiver → Option BitReceiver → ℕ → ℕ → Report → Type 0
Reports old new lane code report =
    OnHeld ((code ≡ no_receiver) × (report ≡ no_report)) (λ (s t : BitReceiver). (result : Result LaneReport Misuse) × IsReport s.session lane result × GivesReport result code report × (t ≡ s)) old new

abbrev pub TellsState : Option BitReceiver → Option BitReceiver → ℕ → ℕ → ℕ → Type 0
TellsState old new lane code state =
    OnHeld ((code ≡ no_receiver) × (state ≡ 0)) (λ (s t : BitReceiver). (result : Result LaneState Misuse) × IsLaneState s.session lane result × GivesState result code state × (t ≡ s)) old new

abbrev pub TellsChannel : Option BitReceiver → Option BitReceiver → ℕ → ℕ → ℕ → Type 0
TellsChannel old new channel code on =
    OnHeld ((code ≡ no_receiver) × (on ≡ 0)) (λ (s t : BitReceiver). (result : Option Bool) × IsChannelState s.session channel result × GivesOn result code on × (t ≡ s)) old new

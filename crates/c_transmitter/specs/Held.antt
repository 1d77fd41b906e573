-- What a call does by a handle of a transmitter.
use Rattle.std.specs.Prelude.{ℕ, ◌≡◌, ◌<◌, ◌≤◌, ◌⊎◌, ◌==◌, not, Bool, List, length, set, take, Option, Some, None, Result, Ok, Err}
use Rattle.lk_base.specs.Checksum.{digit}
use Rattle.lk_base.specs.declared.shape.Shape.{Shape}
use Rattle.csv_rows.specs.Rows.{rows_of}
use Rattle.plan_errors.specs.declared.error.PlanError.{PlanError}
use Rattle.link_plan.specs.Listing.{channels_in_order, numbers_of}
use Rattle.link_plan.specs.Plan.{plan_of}
use Rattle.link_plan.specs.Views.{GivesPlan}
use Rattle.link_plan.specs.declared.plan.Plan.{Plan}
use Rattle.tx_end.specs.Whole.{IsShapeOf}
use Rattle.duplex_model.specs.DuplexRun.{heard_word}
use Rattle.live_stream.specs.declared.counts.Counts.{Counts}
use Rattle.live_stream.specs.declared.refused.Closed.{Closed}
use Rattle.live_stream.specs.declared.refused.LocalRefused.{LocalRefused}
use Rattle.live_stream.specs.declared.refused.Refused.{Refused}
use Rattle.live_end.specs.States.{State}
use Rattle.live_end.specs.Sending.{Sends, nothing_sent}
use Rattle.live_end.specs.Calls.{AreCounted, AreMade, IsClose, IsFlow, IsLocal, IsPacket, IsPacketsClose, IsStatusOf, IsTake}
use Rattle.live_end.specs.declared.status.Status.{Status}
use Rattle.c_parts.specs.Codes.{done, finished, in_use, no_channel, no_lane, no_transmitter, out_of_range, part_byte, plan_code}
use Rattle.c_transmitter.specs.Codes.{local_code, packet_code}
use Rattle.c_bits.specs.Bits.{IsGiven, OfBits, OfWhole, bytes_for, no_parts, part_of}
use Rattle.c_transmitter.specs.declared.bit_transmitter.BitTransmitter.{BitTransmitter}
use Rattle.c_parts.specs.OnHeld.{OnHeld}
use Rattle.c_parts.specs.Refusals.{IsRefused, of_row, refusal_of}
use Rattle.c_parts.specs.declared.refusal.Refusal.{Refusal}
use Rattle.c_transmitter.specs.declared.counts.CCounts.{CCounts}
use Rattle.c_transmitter.specs.declared.status.CStatus.{CStatus}

-- a transmitter of a plan, which was given nothing and made no word
abbrev pub IsSenderOf : Plan → State → Type 0
IsSenderOf plan t =
    (shape : Shape) × IsShapeOf plan.link shape × (shape.burst_min ≡ plan.burst_min) × Sends t (nothing_sent plan.link shape (channels_in_order (numbers_of plan.channels.items)) plan.entries.items)

-- it is that of the plan of these bytes
abbrev pub IsSenderOfPlan : List ℕ → State → Type 0
IsSenderOfPlan bytes t = (plan : Plan) × GivesPlan (Ok plan) (plan_of (rows_of bytes)) × IsSenderOf plan t

-- a transmitter of the plan of these bytes, with no part of a byte
abbrev pub IsMade : List ℕ → BitTransmitter → Type 0
IsMade plan t = IsSenderOfPlan plan t.end × (t.parts ≡ no_parts)

abbrev pub OpensTransmitter : List ℕ → Option BitTransmitter → ℕ → Refusal → Type 0
OpensTransmitter plan (Some t) code refusal = IsMade plan t × (code ≡ done) × (refusal ≡ of_row 0 0)
OpensTransmitter plan None code refusal = (why : PlanError) × IsRefused plan why × (code ≡ plan_code why) × (refusal ≡ refusal_of why)

-- a handle that has a transmitter keeps it
abbrev pub MakesTransmitter : Option BitTransmitter → Option BitTransmitter → List ℕ → ℕ → Refusal → Type 0
MakesTransmitter None new plan code refusal = OpensTransmitter plan new code refusal
MakesTransmitter (Some t) new plan code refusal = (new ≡ Some t) × (code ≡ in_use) × (refusal ≡ of_row 0 0)

-- afterwards there is no transmitter
abbrev pub FreesTransmitter : Option BitTransmitter → Option BitTransmitter → ℕ → Type 0
FreesTransmitter None new code = (new ≡ None) × (code ≡ no_transmitter)
FreesTransmitter (Some t) new code = (new ≡ None) × (code ≡ done)

abbrev pub GivesPacketResult : Result (Unit {0}) Refused → ℕ → Type 0
GivesPacketResult (Ok u) code = code ≡ done
GivesPacketResult (Err why) code = code ≡ packet_code why

abbrev pub GivesRowResult : Result (Unit {0}) Closed → ℕ → Type 0
GivesRowResult (Ok u) code = code ≡ done
GivesRowResult (Err why) code = code ≡ finished

abbrev pub GivesLocalResult : Result (Unit {0}) LocalRefused → ℕ → Type 0
GivesLocalResult (Ok u) code = code ≡ done
GivesLocalResult (Err why) code = code ≡ local_code why

abbrev pub GivesPacket : Option BitTransmitter → Option BitTransmitter → ℕ → List ℕ → ℕ → Type 0
GivesPacket old new channel bytes code = OnHeld (code ≡ no_transmitter) (λ (t u : BitTransmitter). (result : Result (Unit {0}) Refused) × IsPacket t.end u.end channel bytes result × GivesPacketResult result code × (u.parts ≡ t.parts)) old new

-- the word is one that the caller has verified: it tells what it says, with the checksum of itself alone
abbrev pub GivesFlow : Option BitTransmitter → Option BitTransmitter → ℕ → ℕ → Type 0
GivesFlow old new word code = OnHeld (code ≡ no_transmitter) (λ (t u : BitTransmitter). (result : Result (Unit {0}) Closed) × IsFlow t.end u.end (heard_word word) result × GivesRowResult result code × (u.parts ≡ t.parts)) old new

abbrev pub GivesLocal : Option BitTransmitter → Option BitTransmitter → ℕ → ℕ → ℕ → Type 0
GivesLocal old new channel on code = OnHeld (code ≡ no_transmitter) (λ (t u : BitTransmitter). (result : Result (Unit {0}) LocalRefused) × IsLocal t.end u.end channel (not (on == 0)) result × GivesLocalResult result code × (u.parts ≡ t.parts)) old new

-- a lane that is there is taken of; else nothing changes
abbrev pub TakesOf : State → State → ℕ → List ℕ → List ℕ → ℕ → ℕ → Type 0
TakesOf t u lane before after code taken =
    ((lane < length t.lanes.lanes) × (code ≡ done) × IsTake t u lane before after taken) ⊎ ((length t.lanes.lanes ≤ lane) × (code ≡ no_lane) × (taken ≡ 0) × (after ≡ before) × (u ≡ t))

-- a lane of which a part of a byte is left gives no whole byte, and nothing changes
abbrev pub TakesWhole : BitTransmitter → BitTransmitter → ℕ → List ℕ → List ℕ → ℕ → ℕ → Type 0
TakesWhole t u lane before after code taken =
    OfWhole lane t.parts ((code ≡ part_byte) × (taken ≡ 0) × (after ≡ before) × (u ≡ t)) (TakesOf t.end u.end lane before after code taken × (u.parts ≡ t.parts))

abbrev pub TakesBytes : Option BitTransmitter → Option BitTransmitter → ℕ → List ℕ → List ℕ → ℕ → ℕ → Type 0
TakesBytes old new lane before after code taken =
    OnHeld ((code ≡ no_transmitter) × (taken ≡ 0) × (after ≡ before)) (λ (t u : BitTransmitter). TakesWhole t u lane before after code taken) old new

-- So many bits of a lane are asked for: the bytes are taken that complete them after the part that is left, or as many of these as there
-- are. Bits are given, and the others are left
abbrev pub AreGiven : BitTransmitter → BitTransmitter → ℕ → ℕ → ℕ → ℕ → Type 0
AreGiven t u lane count bits taken =
    (before after : List ℕ) × (n : ℕ) × (left : List Bool) × (length before ≡ bytes_for (part_of lane t.parts) count) × IsTake t.end u.end lane before after n ×
    IsGiven (part_of lane t.parts) left (take n after) count bits taken × (u.parts ≡ set t.parts lane left)

-- bits of a lane that is there are taken, 64 at most; else nothing changes
abbrev pub TakesCompleted : BitTransmitter → BitTransmitter → ℕ → ℕ → ℕ → ℕ → ℕ → Type 0
TakesCompleted t u lane count code bits taken = OfBits count ((code ≡ out_of_range) × (bits ≡ 0) × (taken ≡ 0) × (u ≡ t))
    (((lane < length t.end.lanes.lanes) × (code ≡ done) × AreGiven t u lane count bits taken)
    ⊎ ((length t.end.lanes.lanes ≤ lane) × (code ≡ no_lane) × (bits ≡ 0) × (taken ≡ 0) × (u ≡ t)))

abbrev pub TakesBits : Option BitTransmitter → Option BitTransmitter → ℕ → ℕ → ℕ → ℕ → ℕ → Type 0
TakesBits old new lane count code bits taken =
    OnHeld ((code ≡ no_transmitter) × (bits ≡ 0) × (taken ≡ 0)) (λ (t u : BitTransmitter). TakesCompleted t u lane count code bits taken) old new

-- no packet is taken from now on
abbrev pub ClosesPackets : Option BitTransmitter → Option BitTransmitter → ℕ → Type 0
ClosesPackets old new code = OnHeld (code ≡ no_transmitter) (λ (t u : BitTransmitter). IsPacketsClose t.end u.end × (code ≡ done) × (u.parts ≡ t.parts)) old new

-- nothing is taken from now on
abbrev pub ClosesTransmitter : Option BitTransmitter → Option BitTransmitter → ℕ → Type 0
ClosesTransmitter old new code = OnHeld (code ≡ no_transmitter) (λ (t u : BitTransmitter). IsClose t.end u.end × (code ≡ done) × (u.parts ≡ t.parts)) old new

-- ---- what is told

abbrev pub as_counts : Counts → CCounts
as_counts counts = record {
  packets_given = counts.packets_given;
  packets_sent = counts.packets_sent;
  bytes_given = counts.bytes_given;
  bytes_sent = counts.bytes_sent;
}

abbrev pub no_counts : CCounts
no_counts = record { packets_given = 0; packets_sent = 0; bytes_given = 0; bytes_sent = 0 }

abbrev pub GivesCounts : Option Counts → ℕ → CCounts → Type 0
GivesCounts (Some counts) code told = (code ≡ done) × (told ≡ as_counts counts)
GivesCounts None code told = (code ≡ no_channel) × (told ≡ no_counts)

abbrev pub as_status : Status → CStatus
as_status status = record { waiting = status.waiting; left = status.left; ended = digit status.ended; held = digit status.held }

abbrev pub no_status : CStatus
no_status = record { waiting = 0; left = 0; ended = 0; held = 0 }

abbrev pub GivesStatus : Option Status → ℕ → CStatus → Type 0
GivesStatus (Some status) code told = (code ≡ done) × (told ≡ as_status status)
GivesStatus None code told = (code ≡ no_lane) × (told ≡ no_status)

-- the transmitter stays as it is
abbrev pub TellsSent : Option BitTransmitter → Option BitTransmitter → ℕ → ℕ → CCounts → Type 0
TellsSent old new channel code told =
    OnHeld ((code ≡ no_transmitter) × (told ≡ no_counts)) (λ (t u : BitTransmitter). (u ≡ t) × ((result : Option Counts) × AreCounted t.end channel result × GivesCounts result code told)) old new

abbrev pub TellsSlots : Option BitTransmitter → Option BitTransmitter → ℕ → ℕ → Type 0
TellsSlots old new code slots = OnHeld ((code ≡ no_transmitter) × (slots ≡ 0)) (λ (t u : BitTransmitter). (u ≡ t) × AreMade t.end slots × (code ≡ done)) old new

abbrev pub TellsStatus : Option BitTransmitter → Option BitTransmitter → ℕ → ℕ → CStatus → Type 0
TellsStatus old new lane code told =
    OnHeld ((code ≡ no_transmitter) × (told ≡ no_status)) (λ (t u : BitTransmitter). (u ≡ t) × ((result : Option Status) × IsStatusOf t.end lane result × GivesStatus result code told)) old new

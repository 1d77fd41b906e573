-- What the calls on all lanes of a link do.
use Rattle.std.specs.Prelude.{ℕ, ◌≡◌, ◌≤◌, ◌<◌, ◌⊎◌, List, [], ◌∷◌, length, get_or, set, Option, Some, None, Result, Ok, Err}
use Rattle.lk_base.specs.Checksum.{bits_of_bytes}
use Rattle.lk_base.specs.Link.{Settings}
use Rattle.lock_model.specs.declared.types.LaneReport.{LaneReport}
use Rattle.lane_lock.specs.Standing.{IsReport}
use Rattle.lane_events.specs.declared.types.LaneEvent.{LaneEvent}
use Rattle.live_inspector.specs.Lanes.{IsFeed, IsFinish, IsFresh, Lane, Stands, Told}
use Rattle.live_inspector.specs.declared.misuse.Misuse.{Misuse}
use Rattle.live_inspector.specs.declared.misuse.Misuse.TheVariants as misuses
use Rattle.live_inspector.specs.declared.types.LiveEvent.{LiveEvent}

-- lanes of a link to which nothing happened
pub record AreFresh (s : Settings) (lanes : List Lane) : Type 0 where
  pub count : length lanes ≡ s.lanes
  pub each : (i : ℕ) (d : Lane) → i < length lanes → IsFresh s (get_or lanes i d)

-- a call on a lane that is there changes this lane so, and no other; a lane that is not there is refused, and nothing changes
abbrev pub OnLane : {X : Type 0} → (Lane → Lane → Result X Misuse → Type 0) → List Lane → List Lane → ℕ → Result X Misuse → Type 0
OnLane call old new lane result =
    ((length old ≤ lane) × (result ≡ Err misuses.NoLane) × (new ≡ old)) ⊎
    ((lane < length old) × ((l m : Lane) × (((d : Lane) → get_or old lane d ≡ l) × call l m result × (new ≡ set old lane m))))

-- the first bytes of a piece are taken of a lane
abbrev pub FeedsLane : List Lane → List Lane → ℕ → List ℕ → Result ℕ Misuse → Type 0
FeedsLane old new lane piece result = OnLane (λ l m r. IsFeed l m piece r) old new lane result

-- no further byte of a lane comes
abbrev pub FinishesLane : List Lane → List Lane → ℕ → Result (Unit {0}) Misuse → Type 0
FinishesLane old new lane result = OnLane IsFinish old new lane result

-- no event is due on the lanes below this number
abbrev pub NoneDueBelow : ℕ → List Lane → Type 0
NoneDueBelow n lanes = (i : ℕ) (d : Lane) → i < n → i < length lanes → (get_or lanes i d).due ≡ []

-- the event of a lane, without the lane's number
abbrev pub event_of : LiveEvent → LaneEvent
event_of e = record { bit = e.bit; kind = e.kind }

-- the first event that is due on the lowest lane that has one is due no longer, and nothing else changes; none is given if none is due
abbrev pub IsNext : List Lane → List Lane → Option LiveEvent → Type 0
IsNext old new None = NoneDueBelow (length old) old × (new ≡ old)
IsNext old new (Some e) = (e.lane < length old) × NoneDueBelow e.lane old ×
    ((l : Lane) × (rest : List LaneEvent) × (((d : Lane) → get_or old e.lane d ≡ l) × (l.due ≡ event_of e ∷ rest) × (new ≡ set old e.lane (record l { due = rest }))))

-- the report of a lane is that over the bytes that were taken of it
abbrev pub IsReportOf : List Lane → ℕ → Result LaneReport Misuse → Type 0
IsReportOf lanes lane (Ok report) = (lane < length lanes) ×
    ((s : Settings) (t : Told) (d : Lane) → Stands s (get_or lanes lane d) t → IsReport s (bits_of_bytes t.bytes) report)
IsReportOf lanes lane (Err why) = (length lanes ≤ lane) × (why ≡ misuses.NoLane)

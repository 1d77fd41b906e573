-- What the calls on a gatherer do. A call that is misused leaves it as it was.
use Rattle.std.specs.Prelude.{ℕ, ◌≡◌, ◌≤◌, ◌<◌, ◌⊎◌, true, false, List, [], ◌∷◌, ◌++◌, length, min, take, Option, Some, None, IfNone, Result, Ok, Err}
use Rattle.lk_base.specs.Link.{Settings}
use Rattle.lock_model.specs.declared.types.LaneReport.{LaneReport}
use Rattle.event_model.specs.Fed.{Fed}
use Rattle.rx_front.specs.Calls.{IsReportOf, fed_more, finished_at, room_at}
use Rattle.rx_front.specs.Lanes.{are_ready}
use Rattle.live_gatherer.specs.declared.gatherer.LiveGatherer.{LiveGatherer}
use Rattle.live_gatherer.specs.declared.misuse.Misuse.{Misuse}
use Rattle.live_gatherer.specs.declared.misuse.Misuse.TheVariants as misuses
use Rattle.live_gatherer.specs.declared.types.Gathered.{Gathered}
use Rattle.live_gatherer.specs.declared.types.Gathered.TheVariants as gathereds
use Rattle.live_gatherer.specs.Bits.{IsShown}
use Rattle.live_gatherer.specs.Misuses.{feed_misuse, lane_misuse}
use Rattle.live_gatherer.specs.Numbers.{Numbered, as_number}
use Rattle.live_gatherer.specs.Standing.{IsEnd, Stands}
use Rattle.live_gatherer.specs.Taking.{AreAll, IsTold}

-- the gatherer h stands as g does, where what was fed is changed so
abbrev pub Changes : (List Fed → List Fed) → LiveGatherer → LiveGatherer → Type 0
Changes change g h = (s : Settings) (fed : List Fed) (given : List Numbered) → Stands g s fed given → Stands h s (change fed) given

-- a lane takes the longest prefix of the piece that its ring has room for; nothing else is fed, and nothing is given
abbrev pub IsFeed : LiveGatherer → LiveGatherer → ℕ → List ℕ → Result ℕ Misuse → Type 0
IsFeed g h lane piece (Ok n) =
    (feed_misuse g.taker.front lane (length piece) ≡ None) × (n ≡ min (length piece) (room_at lane g.taker.front.lanes)) × Changes (fed_more lane (take n piece)) g h × (h.over ≡ g.over)
IsFeed g h lane piece (Err why) = (feed_misuse g.taker.front lane (length piece) ≡ Some why) × (h ≡ g)

-- no further byte of the lane comes
abbrev pub IsFinish : LiveGatherer → LiveGatherer → ℕ → Result (Unit {0}) Misuse → Type 0
IsFinish g h lane (Ok u) = (lane_misuse g.taker.front lane ≡ None) × Changes (finished_at lane) g h × (h.over ≡ g.over)
IsFinish g h lane (Err why) = (lane_misuse g.taker.front lane ≡ Some why) × (h ≡ g)

-- a report is over the bytes that were taken of the lane's ring
abbrev pub IsReport : LiveGatherer → ℕ → Result LaneReport Misuse → Type 0
IsReport g lane (Ok report) = (lane < length g.taker.front.lanes) ×
    ((s : Settings) (fed : List Fed) (given : List Numbered) (stands : Stands g s fed given) → IsReportOf s stands.takes.progress.rounds lane fed report)
IsReport g lane (Err why) = (why ≡ misuses.NoLane) × (length g.taker.front.lanes ≤ lane)

-- ---- next

-- the next word or break, after those before
pub record Tells (answer : Gathered) (h : LiveGatherer) (s : Settings) (fed : List Fed) (given : List Numbered) : Type 0 where
  pub next : Numbered
  pub told : IsTold s h.taker.front next.item (as_number next.number) answer
  -- a lock of the lane shows a word at its bit
  pub shown : IsShown s fed answer
  pub stands : Stands h s fed (given ++ next ∷ [])

-- or the end, if all lanes are finished and all of theirs was given
abbrev pub GivesOne : Gathered → LiveGatherer → Settings → List Fed → List Numbered → Type 0
GivesOne gathereds.Ended h s fed given = (h.over ≡ true) × IsEnd s fed given × Stands h s fed given
GivesOne answer h s fed given = Tells answer h s fed given

-- or none, if all that is known was given
abbrev pub GivesNext : Option Gathered → LiveGatherer → Settings → List Fed → List Numbered → Type 0
GivesNext (Some answer) h s fed given = GivesOne answer h s fed given
GivesNext None h s fed given = Stands h s fed given × AreAll s fed given

pub record IsNext (g h : LiveGatherer) (answer : Option Gathered) : Type 0 where
  pub gives : (s : Settings) (fed : List Fed) (given : List Numbered) → Stands g s fed given → GivesNext answer h s fed given
  -- if there is none, the end was given before, or a lane that is not finished has an empty ring
  pub none : IfNone answer ((g.over ≡ true) ⊎ (are_ready h.taker.front.lanes ≡ false))
  -- after the end there is none
  pub over : g.over ≡ true → answer ≡ None
  -- only `Ended` gives the end
  pub once : h.over ≡ true → (g.over ≡ true) ⊎ (answer ≡ Some gathereds.Ended)

-- The laws on a receiver that reports to an observer: what it has reported before the first call and while lanes are fed, and what
-- the observer has seen in the end.
use Rattle.std.specs.Prelude.{ℕ, ◌≡◌, true, List, [], Some}
use Rattle.lk_base.specs.Link.{Settings}
use Rattle.receive_model.specs.Events.{Event, Setting}
use Rattle.event_model.specs.Fed.{AllBegin, Fed}
use Rattle.rx_front.specs.Calls.{nothing_fed}
use Rattle.rx_end.specs.declared.event.RxEvent.TheVariants as events
use Rattle.rx_end.specs.Nexts.{IsNext}
use Rattle.rx_end.specs.Observing.{Feeds, HasSeen, HasTold, HasToldSome, IsFresh, Keeping, SawAll, Seeing}
use Rattle.rx_end.specs.Stages.{is_closed}
use Rattle.rx_end.specs.Standing.{Stands}
use Rattle.rx_end.specs.States.{State}

-- ---- the premise of `next_observed`

-- A new receiver and an observer whose own bounds hold with no lock and no item: it was told all that was taken of lanes of which
-- nothing was fed
abbrev pub ToldAtFirst : {O : Type 0} → Keeping O → Type 0
ToldAtFirst {O = O} keeps = (o : O) (v : State) (s : Settings) → IsFresh v s → keeps o s (λ i. []) [] → HasTold keeps o v s (nothing_fed s.lanes)

-- so the premise is met at the first call
abbrev pub PremiseAtFirst : {O : Type 0} → Keeping O → Type 0
PremiseAtFirst {O = O} keeps = (o : O) (v : State) (s : Settings) → IsFresh v s → keeps o s (λ i. []) [] → HasToldSome keeps o v

-- and it stays met where a lane is fed or finished
abbrev pub ToldWhileFed : {O : Type 0} → Keeping O → Type 0
ToldWhileFed {O = O} keeps = (o : O) (more : List Fed → List Fed) (v w : State) (s : Settings) (fed : List Fed) → Feeds more v w → HasTold keeps o v s fed → HasTold keeps o w s (more fed)

-- ---- what the observer has seen

-- no lock and no item, where it has seen so of lanes with these bytes
abbrev pub SeenAtFirst : {O : Type 0} → Keeping O → Seeing O → Type 0
SeenAtFirst {O = O} keeps saw = (o : O) (v : State) (s : Settings) (lanes : List (List ℕ)) → IsFresh v s → keeps o s (λ i. []) [] → saw o s lanes (λ i. []) [] →
    HasSeen keeps saw o v s (nothing_fed s.lanes) lanes

abbrev pub SeenWhileFed : {O : Type 0} → Keeping O → Seeing O → Type 0
SeenWhileFed {O = O} keeps saw = (o : O) (more : List Fed → List Fed) (v w : State) (s : Settings) (fed : List Fed) (lanes : List (List ℕ)) → Feeds more v w →
    HasSeen keeps saw o v s fed lanes → HasSeen keeps saw o w s (more fed) lanes

-- once nothing more comes: all items of the lanes whose bytes begin with what was fed, and all their locks
abbrev pub ClosedSawAll : {O : Type 0} → Keeping O → Seeing O → Type 0
ClosedSawAll {O = O} keeps saw = (o : O) (v : State) (s : Settings) (fed : List Fed) (lanes : List (List ℕ)) → HasSeen keeps saw o v s fed lanes → is_closed v.stage ≡ true → AllBegin fed lanes →
    SawAll keeps saw o v.front s lanes

-- so after the call that gave `Ended`
abbrev pub EndSawAll : {O : Type 0} → Keeping O → Seeing O → Type 0
EndSawAll {O = O} keeps saw = (o : O) (v w : State) (s : Settings) (setting : Setting) (fed : List Fed) (given : List Event) (lanes : List (List ℕ)) →
    Stands v s setting fed given → IsNext v w (Some events.Ended) → HasSeen keeps saw o w s fed lanes → AllBegin fed lanes → SawAll keeps saw o w.front s lanes

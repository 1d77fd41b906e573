-- Lanes have events, which their bits determine, and which more bits leave.
use Rattle.std.proofs.Common.{◌≡◌, refl, sym, ap, ◌∙◌, subst, Bool, List, [], ◌∷◌, ◌++◌, append_assoc}
use Rattle.std.proofs.lemmas.List.{append-nil}
use Rattle.lk_base.specs.Link.{Settings}
use Rattle.lock_model.specs.Locks.{Attempt, AreAttempts}
use Rattle.lock_model.proofs.Determined.{determined}
use Rattle.lock_model.proofs.Existing.{attempts_exist}
use Rattle.lane_events.specs.declared.types.LaneEvent.{LaneEvent}
use Rattle.lane_events.specs.Events.{AreLaneEvents, lane_events}
use Rattle.lane_events.specs.EventLaw.{EarlierEventsStay, EventsAreDetermined, EventsExist}
use Rattle.lane_events.proofs.AllGrow.{grown_by_bit}

pub events_exist : EventsExist
events_exist s bits = let all = attempts_exist s.metaframe bits in (lane_events s bits all.0, record { attempts = all.0; are = all.1; events_are = refl })

-- the events for any attempts
pub events_by : (s : Settings) (bits : List Bool) (events : List LaneEvent) → AreLaneEvents s bits events → (attempts : List Attempt) → AreAttempts s.metaframe bits attempts →
    events ≡ lane_events s bits attempts
events_by s bits events k attempts are = k.events_are ∙ ap (lane_events s bits) (determined s.metaframe bits k.attempts attempts k.are are)

pub events_determined : EventsAreDetermined
events_determined s bits one other a b = events_by s bits one a b.attempts b.are ∙ sym b.events_are

pub earlier_events_stay : EarlierEventsStay
earlier_events_stay s bits [] one all long a b =
    ([], events_determined s bits all one (subst (λ (xs : List Bool). AreLaneEvents s xs all) (append-nil bits) b) a ∙ sym (append-nil one))
earlier_events_stay s bits (x ∷ more) one all long a b =
    let here = events_exist s (bits ++ x ∷ []) in
    let grown = grown_by_bit s long bits x a.attempts here.1.attempts a.are here.1.are in
    let rest = earlier_events_stay s (bits ++ x ∷ []) more here.0 all long here.1 (subst (λ (xs : List Bool). AreLaneEvents s xs all) (sym (append_assoc bits (x ∷ []) more)) b) in
    (grown.new ++ rest.0, rest.1 ∙ ap (λ xs. xs ++ rest.0) (here.1.events_are ∙ grown.appended ∙ ap (λ xs. xs ++ grown.new) (sym a.events_are)) ∙ append_assoc one grown.new rest.0)

-- The events that a step of a lane's locks tells of, with the reports before and after it.
use Rattle.std.specs.Prelude.{ℕ, ℤ, pos, ◌==◌, Bool, true, false, not, ◌&&◌, List, [], ◌∷◌, map, filter, Option, Some, is_none, is_some}
use Rattle.lk_base.specs.declared.word.RxWord.{RxWord}
use Rattle.lk_base.specs.declared.word.RxWord.TheVariants.{Control}
use Rattle.lk_base.specs.Words.{is_bad}
use Rattle.lane_model.specs.declared.role.Role.{Role}
use Rattle.lane_model.specs.declared.role.Role.TheVariants as roles
use Rattle.lane_model.specs.Framing.{sync_payload}
use Rattle.lock_model.specs.declared.types.LaneReport.{LaneReport}
use Rattle.lock_model.specs.declared.types.LaneStep.{LaneStep}
use Rattle.lock_model.specs.declared.types.LaneStep.TheVariants as steps
use Rattle.lane_events.specs.declared.types.EventKind.{EventKind}
use Rattle.lane_events.specs.declared.types.EventKind.TheVariants as kinds
use Rattle.lane_events.specs.declared.types.LaneEvent.{LaneEvent}
use Rattle.lane_events.specs.Balance.{balance_after}
use Rattle.lane_events.specs.Events.{all_kinds, is_no_skip, is_skip_place, is_unhealthy, loss_kind}
pub use Rattle.metaframe.specs.Writing.{is_payload as is_payload_place}

-- the event of this kind of a word at this bit position
abbrev pub event_of : ℕ → EventKind → LaneEvent
event_of bit kind = record { bit = bit; kind = kind }

-- the events of a word at this bit position that has these kinds, in their order
abbrev pub events_at : ℕ → (EventKind → Bool) → List LaneEvent
events_at bit has = map (event_of bit) (filter has all_kinds)

abbrev pub is_diagnostic_place : Role → Bool
is_diagnostic_place roles.Sync = false
is_diagnostic_place roles.State = false
is_diagnostic_place roles.Skip = false
is_diagnostic_place (roles.Payload n) = false
is_diagnostic_place roles.Diagnostic = true

-- a covered word has an event of this kind: from what is counted of it, what it is, and whether it unbalances its lock
abbrev pub covered_has : RxWord → Role → LaneReport → LaneReport → Bool → EventKind → Bool
covered_has word role before after unbalances kinds.Bad = not (after.bad == before.bad)
covered_has word role before after unbalances kinds.Sync = not (after.sync == before.sync)
covered_has word role before after unbalances kinds.State = not (after.state == before.state)
covered_has word role before after unbalances kinds.Skip = is_skip_place role && is_no_skip word
covered_has word role before after unbalances kinds.Diagnostic = not (after.diag == before.diag)
covered_has word role before after unbalances kinds.Health = is_diagnostic_place role && (after.diag == before.diag) && is_unhealthy word
covered_has word role before after unbalances kinds.Balance = unbalances
covered_has word role before after unbalances kinds.Lock = not (after.locks == before.locks)
covered_has word role before after unbalances kinds.LostHeaders = false
covered_has word role before after unbalances kinds.LostSync = false
covered_has word role before after unbalances kinds.LostState = false
covered_has word role before after unbalances kinds.Unframed = false

-- the events of the word that a step is of
abbrev pub told : LaneStep → LaneReport → LaneReport → Bool → List LaneEvent
told steps.Nothing before after unbalances = []
told (steps.Word word role at) before after unbalances = events_at at (covered_has word role before after unbalances)
told (steps.Locked at) before after unbalances = events_at at (covered_has (Control sync_payload) roles.Sync before after unbalances)
told (steps.Lost why at) before after unbalances = event_of at (loss_kind (after.unframed == before.unframed) why) ∷ []
told steps.Ended before after unbalances = []

-- ---- the steps that show nothing but a balance

-- a payload word with a legal header
abbrev pub is_plain_word : RxWord → Role → Bool
is_plain_word word role = is_payload_place role && not (is_bad word)

-- no word, and a covered word that is one
abbrev pub is_plain : LaneStep → Bool
is_plain steps.Nothing = true
is_plain (steps.Word word role at) = is_plain_word word role
is_plain (steps.Locked at) = false
is_plain (steps.Lost why at) = false
is_plain steps.Ended = false

-- ---- the balance

-- before the word of a step: that of no code at a declaring Sync
abbrev pub balance_before : LaneStep → Option ℤ → Option ℤ
balance_before steps.Nothing balance = balance
balance_before (steps.Word word role at) balance = balance
balance_before (steps.Locked at) balance = Some (pos 0)
balance_before (steps.Lost why at) balance = balance
balance_before steps.Ended balance = balance

-- after it, its code having this many ones less zeros
abbrev pub balance_behind : LaneStep → Option ℤ → ℤ → Option ℤ
balance_behind steps.Nothing balance excess = balance
balance_behind (steps.Word word role at) balance excess = balance_after balance excess
balance_behind (steps.Locked at) balance excess = balance_after balance excess
balance_behind (steps.Lost why at) balance excess = balance
balance_behind steps.Ended balance excess = balance

-- a code unbalances where it was balanced before and is not after
abbrev pub unbalances : Option ℤ → Option ℤ → Bool
unbalances before after = is_some before && is_none after

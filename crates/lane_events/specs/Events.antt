-- The events of one lane: what is wrong with the words that its locks cover, and where locks are declared and lost.
use Rattle.std.specs.Prelude.{ℕ, ◌≡◌, ◌+◌, ◌-◌, ◌*◌, ◌/◌, ◌%◌, ◌^◌, ◌==◌, Bool, true, false, not, ◌&&◌, List, [], ◌∷◌, ◌++◌, map, filter, flat_map, Option, Some, None, is_some}
use Rattle.std.specs.List.{list_any, range_with_len}
use Rattle.lk_base.specs.declared.word.RxWord.{RxWord}
use Rattle.lk_base.specs.declared.word.RxWord.TheVariants.{Data, Control, Bad}
use Rattle.lk_base.specs.Link.{Settings}
use Rattle.lk_base.specs.Words.{is_bad, number_of}
use Rattle.lane_model.specs.declared.role.Role.{Role}
use Rattle.lane_model.specs.declared.role.Role.TheVariants as roles
use Rattle.lane_model.specs.Coding.{disparity}
use Rattle.lane_model.specs.Framing.{role_of, skip_payload}
use Rattle.lock_model.specs.declared.types.LostWhy.{LostWhy}
use Rattle.lock_model.specs.declared.types.LostWhy.TheVariants as whys
use Rattle.lock_model.specs.Locks.{Attempt, Loss, AreAttempts, code_at, word_at, is_wrong_state, is_wrong_sync}
use Rattle.lock_model.specs.Received.{Lock, lock_of, received_at}
use Rattle.lock_model.specs.Report.{has_right_diagnostic}
use Rattle.lane_events.specs.declared.types.EventKind.{EventKind}
use Rattle.lane_events.specs.declared.types.EventKind.TheVariants as kinds
use Rattle.lane_events.specs.declared.types.LaneEvent.{LaneEvent}
use Rattle.lane_events.specs.Balance.{is_far_off}

-- the kinds, in the order of the events of one word
abbrev pub all_kinds : List EventKind
all_kinds = kinds.Bad ∷ kinds.Sync ∷ kinds.State ∷ kinds.Skip ∷ kinds.Diagnostic ∷ kinds.Health ∷ kinds.Balance ∷ kinds.Lock
    ∷ kinds.LostHeaders ∷ kinds.LostSync ∷ kinds.LostState ∷ kinds.Unframed ∷ []

-- ---- the words that a lock covers; `at` is the bit position of its declaring Sync, which is word 0

abbrev pub is_skip_place : Role → Bool
is_skip_place roles.Sync = false
is_skip_place roles.State = false
is_skip_place roles.Skip = true
is_skip_place (roles.Payload n) = false
is_skip_place roles.Diagnostic = false

-- a word, descrambled, is neither Bad nor Control(1E1E1E1E1E1E1E1E)
abbrev pub is_no_skip : RxWord → Bool
is_no_skip (Data x) = true
is_no_skip (Control x) = not (x == skip_payload)
is_no_skip Bad = false

-- bits 33:32 of a Diagnostic word are not both 1
abbrev pub is_unhealthy : RxWord → Bool
is_unhealthy word = not (number_of word / 2 ^ 32 % 4 == 3)

-- the codes of the words from the declaring Sync up to and with word r
abbrev pub codes_to : List Bool → ℕ → ℕ → List ℕ
codes_to bits at r = map (λ k. code_at bits (at + 67 * k)) (range_with_len 0 (r + 1))

-- all 67 bits of each of them counted, they have over 129 more ones than zeros, or zeros than ones
unfoldable pub is_unbalanced : List Bool → ℕ → ℕ → Bool
is_unbalanced bits at r = is_far_off (disparity (codes_to bits at r))

-- word r, which the lock covers, has an event of this kind
abbrev pub has_event : Settings → List Bool → ℕ → ℕ → EventKind → Bool
-- it is Bad
has_event s bits at r kinds.Bad = is_bad (word_at bits (at + 67 * r))
-- it stands at the place of a Sync word and is not Sync (a Bad word too)
has_event s bits at r kinds.Sync = (r % s.metaframe == 0) && is_wrong_sync s.metaframe bits at (r / s.metaframe)
-- it stands at the place of a Scrambler State word and is not the Control word of the running state (a Bad word too). The word
-- after the declaring Sync, of which the state is loaded, never has it: where it is covered it carries just that state
has_event s bits at r kinds.State = (r % s.metaframe == 1) && is_wrong_state s.metaframe bits at (r / s.metaframe)
-- it stands at the place of a Skip word and is, descrambled, neither Bad nor Control(1E1E1E1E1E1E1E1E)
has_event s bits at r kinds.Skip = is_skip_place (role_of s (r % s.metaframe)) && is_no_skip (received_at s bits at r)
-- it stands at the place of a Diagnostic word and is not right
has_event s bits at r kinds.Diagnostic = (r % s.metaframe == s.metaframe - 1) && not (has_right_diagnostic s bits at (r / s.metaframe))
-- it stands at the place of a Diagnostic word, is right, and its bits 33:32 are not both 1
has_event s bits at r kinds.Health = (r % s.metaframe == s.metaframe - 1) && has_right_diagnostic s bits at (r / s.metaframe) && is_unhealthy (received_at s bits at r)
-- the codes up to it are unbalanced, for the first time in this lock
has_event s bits at r kinds.Balance = is_unbalanced bits at r && not (list_any (is_unbalanced bits at) (range_with_len 0 r))
-- it is the declaring Sync
has_event s bits at r kinds.Lock = r == 0
-- no lock is lost at a word that it covers
has_event s bits at r kinds.LostHeaders = false
has_event s bits at r kinds.LostSync = false
has_event s bits at r kinds.LostState = false
has_event s bits at r kinds.Unframed = false

-- its events, at its first bit
unfoldable pub word_events : Settings → List Bool → ℕ → ℕ → List LaneEvent
word_events s bits at r = map (λ kind. record { bit = at + 67 * r; kind = kind }) (filter (has_event s bits at r) all_kinds)

-- the events of the words from the declaring Sync up to the last that is covered, word by word
abbrev pub covered_events : Settings → List Bool → Option Lock → List LaneEvent
covered_events s bits None = []
covered_events s bits (Some lock) = flat_map (word_events s bits lock.at) (range_with_len 0 lock.count)

-- ---- a losing word, which no lock covers

-- a declared lock is lost for this (for no lack of a declaration); a search is lost before a declaration, or given up
abbrev pub loss_kind : Bool → LostWhy → EventKind
loss_kind true whys.Headers = kinds.LostHeaders
loss_kind true whys.Sync = kinds.LostSync
loss_kind true whys.State = kinds.LostState
loss_kind true whys.Unframed = kinds.Unframed
loss_kind false why = kinds.Unframed

-- the event of the losing word of the word lock at p
abbrev pub losing_events : ℕ → Bool → Option Loss → List LaneEvent
losing_events p declared None = []
losing_events p declared (Some loss) = record { bit = p + 67 * loss.word; kind = loss_kind declared loss.why } ∷ []

-- ---- all attempts

-- the events of an attempt: of the words that its lock covers, if one is declared, and then of its losing word
abbrev pub attempt_events : Settings → List Bool → Attempt → List LaneEvent
attempt_events s bits a = covered_events s bits (lock_of bits a) ++ losing_events a.starts (is_some a.declared) a.lost

-- the events of a lane with these attempts
abbrev pub lane_events : Settings → List Bool → List Attempt → List LaneEvent
lane_events s bits attempts = flat_map (attempt_events s bits) attempts

-- these are the events of a lane with these bits
pub record AreLaneEvents (s : Settings) (bits : List Bool) (events : List LaneEvent) : Type 0 where
  pub attempts : List Attempt
  pub are : AreAttempts s.metaframe bits attempts
  pub events_are : events ≡ lane_events s bits attempts

-- Worked events, at metaframes of 32 words.
use Rattle.std.specs.Prelude.{ℕ, ◌≡◌, Bool, List, [], ◌∷◌, Some, None}
use Rattle.lane_model.specs.Examples.{short_link}
use Rattle.lock_model.specs.declared.types.LostWhy.TheVariants as whys
use Rattle.lock_model.specs.LossExamples.{illegal_from, no_state, row_bits, zeros_at}
use Rattle.lane_events.specs.declared.types.EventKind.TheVariants as kinds
use Rattle.lane_events.specs.declared.types.LaneEvent.{LaneEvent}
use Rattle.lane_events.specs.Events.{attempt_events, word_events}
use Rattle.lane_events.specs.Steps.{event_of as event}

-- the events of word r after a declaring Sync at word 96
abbrev pub events_at : List Bool → ℕ → List LaneEvent
events_at bits r = word_events short_link bits 6432 r

pub record WorkedEvents : Type 0 where
  -- the declaring Sync, and the Scrambler State word after it
  pub declares : events_at (row_bits []) 0 ≡ event 6432 kinds.Lock ∷ []
  pub first_state : events_at (row_bits []) 1 ≡ []
  -- zeros in place of Skip, and then of payload words: 41 ones of 67, 32 of 67, and then 1 of 67 each
  pub skip : events_at (row_bits []) 2 ≡ event 6566 kinds.Skip ∷ []
  -- a right Sync later, one of zeros, and one whose header is illegal
  pub right_sync : events_at (row_bits []) 32 ≡ []
  pub wrong_sync : events_at (row_bits (zeros_at (128 ∷ []))) 32 ≡ event 8576 kinds.Sync ∷ []
  pub bad_sync : events_at (row_bits (illegal_from 128 1)) 32 ≡ event 8576 kinds.Bad ∷ event 8576 kinds.Sync ∷ []
  -- a Scrambler State word of zeros, and a Bad one
  pub wrong_state : events_at (row_bits (zeros_at (129 ∷ []))) 33 ≡ event 8643 kinds.State ∷ []
  -- a Bad Skip word is Bad alone
  pub bad_skip : events_at (row_bits (illegal_from 130 1)) 34 ≡ event 8710 kinds.Bad ∷ []
  -- a lock that is lost at the word after its declaring Sync, which it does not cover
  pub lost_state : attempt_events short_link no_state (record { starts = 0; declared = Some 96; lost = Some (record { word = 97; why = whys.State }) })
      ≡ event 6432 kinds.Lock ∷ event 6499 kinds.LostState ∷ []
  -- a search that is given up at word 191
  pub unframed : attempt_events short_link (row_bits []) (record { starts = 0; declared = None; lost = Some (record { word = 191; why = whys.Unframed }) })
      ≡ event 12797 kinds.Unframed ∷ []

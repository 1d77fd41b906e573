-- What the maker of the words file gave so far.
use Rattle.std.specs.Prelude.{◌≡◌, ℕ, ◌+◌, ◌≤◌, ◌^◌, List, [], ◌∷◌, length}
use Rattle.retransmit.specs.Carried.{Carried}
use Rattle.run_shell.specs.Outcome.{Outcome}
use Rattle.resend_commands.specs.Carried.{accepted_file, events_done}
use Rattle.resend_commands.specs.Left.{IsAmong, events_left}
use Rattle.resend_commands.specs.Plan.{ResendReading, IsPlanResent}
use Rattle.resend_commands.specs.Resent.{outcome_of}
use Rattle.resend_commands.specs.declared.place.Place.{Place}

-- what a retransmission comes to where no event is left
abbrev pub outcome_at : List ℕ → Carried → Outcome
outcome_at prefix c = outcome_of prefix c.pieces c.state

-- the words of the pieces that are accepted at this place; with the events that are left the stream comes to what is made of these inputs
pub record GaveWords (i : ResendReading) (c : Carried) (place : Place) (given : List (List ℕ)) : Type 0 where
  pub among : IsAmong i.rows place
  pub few : c.state.sends + length (events_left i.rows place) ≤ 2 ^ 60
  pub leads : IsPlanResent i (outcome_at i.reading.plan.out (events_done c (events_left i.rows place)))
  pub is : given ≡ accepted_file c ∷ []

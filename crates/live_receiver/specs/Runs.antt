-- What is known of a receiver that is fed.
use Rattle.std.specs.Prelude.{ℕ, ◌≡◌, Bool, false, List, length, map, Option, Some, None}
use Rattle.lk_base.specs.Link.{Settings}
use Rattle.receive_model.specs.Events.{Event, Setting}
use Rattle.event_model.specs.Fed.{Fed}
use Rattle.rx_end.specs.declared.event.RxEvent.{RxEvent}
use Rattle.rx_end.specs.Nexts.{is_packet}
use Rattle.rx_end.specs.States.{State}
use Rattle.rx_end.specs.Standing.{Stands}
pub use Rattle.event_model.specs.Fed.{counts, flags}

-- these lanes of it are finished, and this many bytes were fed of each
pub record Runs (r : State) (finished : List Bool) (fed_of : List ℕ) : Type 0 where
  pub settings : Settings
  pub setting : Setting
  pub fed : List Fed
  pub given : List Event
  pub stands : Stands r settings setting fed given
  pub flags_are : flags fed ≡ finished
  pub counts_are : counts fed ≡ fed_of

-- an answer of `next` lends a packet
abbrev pub is_lent : Option RxEvent → Bool
is_lent (Some event) = is_packet event
is_lent None = false

-- What is known of a taker that is fed.
use Rattle.std.specs.Prelude.{ℕ, ◌≡◌, Bool, List, length, map}
use Rattle.lk_base.specs.Link.{Settings}
use Rattle.event_model.specs.Fed.{Fed}
use Rattle.live_gatherer.specs.declared.taker.Taker.{Taker}
use Rattle.live_gatherer.specs.Numbers.{Numbered}
use Rattle.live_gatherer.specs.Taking.{Takes}
pub use Rattle.event_model.specs.Fed.{counts, flags}

-- these lanes of it are finished, and this many bytes were fed of each
pub record Runs (v : Taker) (finished : List Bool) (fed_of : List ℕ) : Type 0 where
  pub settings : Settings
  pub fed : List Fed
  pub given : List Numbered
  pub takes : Takes v settings fed given
  pub flags_are : flags fed ≡ finished
  pub counts_are : counts fed ≡ fed_of

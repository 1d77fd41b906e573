-- What the maker of lanes gave so far.
use Rattle.std.specs.Prelude.{◌≡◌, ◌≤◌, ◌*◌, ℕ, List, length, take}
use Rattle.lk_base.specs.Link.{IsLink, group_of}
use Rattle.lk_base.specs.declared.word.Word.{Word}
use Rattle.tx_end.specs.Lanes.{AreFilled}
use Rattle.tx_end.specs.Rounds.{Filler}
use Rattle.lane_commands.specs.Stripe.{Stripes}
use Rattle.lane_commands.specs.declared.plan_words.StripeInputs as code

-- The lanes of the plan's link carry this many first words of the stream of its words, a whole number of groups, and the outputs
-- were given the whole bytes of the metaframes of these. A group has room.
pub record GaveLanes (r : code.StripeInputs) (lanes : Filler) (group : List Word) (slots : ℕ) (given : List (List ℕ)) : Type 0 where
  pub limits : IsLink r.plan.link
  pub settings : lanes.settings ≡ r.plan.link
  pub room : length group ≡ group_of r.plan.link
  pub stream : List Word
  pub stripes : Stripes r.plan.link r.words stream
  pub within : slots ≤ length stream
  pub made : ℕ
  pub count : slots ≡ made * group_of r.plan.link
  pub filled : AreFilled r.plan.link (take slots stream) made lanes.lanes given

-- The law on rules: the payload stream of a source breaks none of the rules of a sender's words.
use Rattle.std.specs.Prelude.{◌≡◌, List, [], map, All, Contains}
use Rattle.lk_base.specs.Words.{as_sent}
use Rattle.lk_base.specs.declared.word.Word.{Word}
use Rattle.stream_model.specs.BurstStream.{Source, IsSource, IsBurstStream}
use Rattle.delivery_laws.specs.LawOnWords.{EachIsPacket, NumbersFit}
use Rattle.word_rules.specs.Faults.{Plan, faults}

-- what a plan says of a source whose words are checked by it
pub record IsPlanOf (p : Plan) (source : Source) : Type 0 where
  -- the sizes of its shape
  pub burst_max : p.limits.burst_max ≡ source.shape.burst_max
  pub burst_short : p.limits.burst_short ≡ source.shape.burst_short
  pub burst_min : p.limits.burst_min ≡ source.shape.burst_min
  -- each packet has 1 to max_packet bytes
  pub packets : EachIsPacket p.limits.max_packet source
  -- where channel numbers are narrow, each channel has one
  pub numbers : NumbersFit p.limits.wide source
  -- each channel is listed
  pub listed : All (Contains p.channels) source.channels
  -- the calendar and the flow rows are those of the source
  pub entries : p.entries ≡ source.entries
  pub flow : p.flow ≡ source.flow

-- the stream of a source, checked by a plan of it, has no fault
abbrev pub LawOnRules : Type 0
LawOnRules = (source : Source) (p : Plan) (w : List Word) →
    IsSource source → IsPlanOf p source → IsBurstStream source w → faults p (map as_sent w) ≡ []

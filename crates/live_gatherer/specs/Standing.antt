-- How a gatherer stands to what was fed of the lanes and to what was given.
use Rattle.std.specs.Prelude.{◌≡◌, true, List}
use Rattle.lk_base.specs.Link.{Settings}
use Rattle.event_model.specs.Fed.{Fed, all_finished}
use Rattle.live_gatherer.specs.declared.gatherer.LiveGatherer.{LiveGatherer}
use Rattle.live_gatherer.specs.Numbers.{Numbered}
use Rattle.live_gatherer.specs.Taking.{AreAll, Takes}

-- all lanes are finished, and all of theirs was given
pub record IsEnd (s : Settings) (fed : List Fed) (given : List Numbered) : Type 0 where
  pub finished : all_finished fed ≡ true
  pub all : AreAll s fed given

-- this was fed of each lane, and this was given
pub record Stands (g : LiveGatherer) (s : Settings) (fed : List Fed) (given : List Numbered) : Type 0 where
  pub takes : Takes g.taker s fed given
  -- the end is given after all else
  pub over : g.over ≡ true → IsEnd s fed given

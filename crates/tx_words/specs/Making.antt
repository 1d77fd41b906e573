-- What a maker of words was given and gave so far.
use Rattle.std.specs.Prelude.{◌≡◌, ℕ, List}
use Rattle.lk_base.specs.declared.word.Word.{Word}
use Rattle.stream_model.specs.BurstStream.{Source}
use Rattle.burst_scheduler.specs.Gives.{HasGivenData, last_data}
use Rattle.tx_words.specs.Driving.{Drives, IsTimed, having_rows}
use Rattle.tx_words.specs.declared.word_maker.WordMaker.{WordMaker}

-- its scheduler has the source's packets, and the rows up to the next slot, and gave these words
pub record GaveWords (m : WordMaker) (source : Source) (words : List Word) : Type 0 where
  pub rows : having_rows source m.flow.now m.local.now ≡ source
  pub drives : Drives m.scheduler (having_rows source m.flow.now m.local.now) words m.flow_passed m.local_passed
  pub timed : IsTimed (having_rows source m.flow.now m.local.now)

-- the numbers of the last words made, where these are data words of one burst
abbrev pub last_made : WordMaker → ℕ → List ℕ
last_made m n = last_data m.scheduler n

-- the last words made, so many of them, are data words of one burst
abbrev pub HasMadeData : WordMaker → ℕ → Type 0
HasMadeData m n = HasGivenData m.scheduler n

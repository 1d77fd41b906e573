use Rattle.std.proofs.Common.{◌≡◌, List, ℕ, drop}
use Rattle.stream_model.specs.Calendar.{Told}
use Rattle.stream_model.specs.BurstStream.{Source}
use Rattle.lk_base.specs.declared.word.Word.{Word}
use Rattle.calendar.specs.Changes.{changes}
use Rattle.burst_scheduler.specs.Gives.{AreLater}
use Rattle.burst_scheduler.specs.declared.sizes.BurstSizes.{BurstSizes}
use Rattle.live_stream.specs.Waiting.{channels_of}
use Rattle.live_stream.specs.Turns.{AreInTurn, HaveLeft}
use Rattle.live_stream.proofs.Telling.{HasTold}
use Rattle.live_stream.proofs.turns.turn_all.Given as goal

abbrev pub invariant-loop-i : goal.invariant-loop-i
invariant-loop-i l = record {
  told : (channels : List ℕ) (told : List Told) (w : List Word) (es : List Told) → AreInTurn channels told w (channels_of l.fn.turns.items) → l.changed.items ≡ changes told es → AreLater told w es → HasTold channels (channels_of l.turns.items) told w es (drop l.i l.changed.items);
  left : (sizes : BurstSizes) (source : Source) (w : List Word) → HaveLeft l.fn.turns.items sizes source w → HaveLeft l.turns.items sizes source w;
}

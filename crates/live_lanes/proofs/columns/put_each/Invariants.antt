-- The lanes so far made their payload words.
use Rattle.std.proofs.Common.{get_or}
use Rattle.lk_base.specs.declared.word.Word.TheVariants.{Data}
use Rattle.live_lanes.specs.Lanes.{MakesPayload}
use Rattle.live_lanes.proofs.FirstDid.{FirstDid}
use Rattle.live_lanes.proofs.columns.put_each.Given as goal

abbrev pub invariant-loop-i : goal.invariant-loop-i
invariant-loop-i l = FirstDid (λ j. MakesPayload (get_or l.words j (Data 0))) l.i l.fn.lanes l.lanes

-- The words so far are the same.
use Rattle.std.proofs.Common.{map}
use Rattle.lk_base.specs.declared.word.RxWord.TheVariants.{Data}
use Rattle.link_replay.specs.Runs.{AreSameData}
use Rattle.link_replay.proofs.runs.same_data.Given as goal

abbrev pub invariant-loop-place : goal.invariant-loop-place
invariant-loop-place l = AreSameData (map Data l.received) l.sent l.slot l.place

-- Eight payload words.
use Rattle.std.proofs.Common.{ap, ◌∙◌}
use Rattle.lane_lock.specs.Lane.{LaneView}
use Rattle.lane_lock.specs.Run.{run_of}
use Rattle.lane_lock.proofs.CodesTaken.{eight_taken}
use Rattle.lane_lock.proofs.lane.LaneLock.take_codes.Goals as goal

pub returns-clause-stands : goal.returns-clause-stands
returns-clause-stands c is =
    eight_taken c.args.self.now c.go_on.new.self c.args.codes.now c.run-run.result c.payload_codes-plain.new.self c.requires.ahead c.told-codes c.requires.codes (c.are_legal.ensures.legal c.if-not-are_legal.false)
    (c.run-run.ensures ∙ ap (λ (x : LaneView). run_of x.watch) c.self.view_is)
    c.payload_codes-plain.ensures.value c.go_on.ensures

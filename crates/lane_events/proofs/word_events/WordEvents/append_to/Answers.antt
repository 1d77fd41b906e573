-- At most one event of each kind.
use Rattle.std.proofs.lemmas.Result.{on_ok_weaker}
use Rattle.lane_events.proofs.Appending.{few_appended}
use Rattle.lane_events.proofs.word_events.WordEvents.append_to.Goals as goal

pub returns-clause-few : goal.returns-clause-few
returns-clause-few c =
    on_ok_weaker c.append_kinds.result (few_appended c.args.self.now.bit c.as_slice.result.now c.args.found.now.items c.append_kinds.new.found.items c.as_slice.ensures.fits) c.append_kinds.ensures

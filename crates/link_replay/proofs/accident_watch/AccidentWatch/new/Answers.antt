-- Nothing came.
use Rattle.std.proofs.Common.{refl, ap, ◌∙◌}
use Rattle.link_replay.specs.Standing.{skews_of}
use Rattle.link_replay.proofs.Made.{fresh_skews, made_watches}
use Rattle.link_replay.proofs.accident_watch.AccidentWatch.new.Goals as goal

pub returns-clause-same : goal.returns-clause-same
returns-clause-same c = (refl, ap skews_of c.in_ok-lanes.ensures ∙ fresh_skews c.args.skews.now)

pub returns-clause-watches : goal.returns-clause-watches
returns-clause-watches c =
    made_watches c.args.link.now _ c.in_ok-lanes.lanes.items c.new.result c.args.skews.now c.new.ensures c.keeps_limits.ensures c.in_ok-lanes.ensures c.requires refl

-- The lane is there.
use Rattle.std.proofs.Common.{ℕ, arith}
use Rattle.live_inspector.specs.Lanes.{IsFeed}
use Rattle.live_inspector.proofs.AllLanes.{on_lane}
use Rattle.live_inspector.proofs.inspector.LiveInspector.feed.Goals as goal

pub returns : goal.returns
returns c =
    let there = c.if-at-len.false in
    let len = c.len.ensures in
    on_lane ℕ (λ l m r. IsFeed l m c.args.bytes.now r) c.self.inside.lanes.items c.args.self.now c.args.lane c.feed-answer.result c.index_mut.result.now c.feed-answer.new.self _
    c.self.view_is (omega (arith, there, len)) c.index_mut.ensures.value c.feed-answer.ensures

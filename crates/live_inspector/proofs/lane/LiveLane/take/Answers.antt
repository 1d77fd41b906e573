-- None was due.
use Rattle.std.proofs.Common.{ap, subst, ◌∙◌, ◌+◌, List}
use Rattle.lane_events.specs.declared.types.LaneEvent.{LaneEvent}
use Rattle.live_inspector.specs.Lanes.{Lane, Takes}
use Rattle.live_inspector.proofs.Taking.{none_due, takes_more}
use Rattle.live_inspector.proofs.lane.LiveLane.take.Goals as goal

pub returns : goal.returns
returns c =
    let v = c.self.inside in
    let was : Lane = record { inspector = v.inspector; taken = v.taken; due = v.due; finished = v.finished } in
    let (n, shown) = c.take_until_events-count.result in
    let w = c.take_until_events-count.new.self in
    let now : Lane = record { inspector = w; taken = v.taken + n; due = c.of-self-inside.result; finished = v.finished } in
    subst (λ (l : Lane). Takes l now c.args.piece.now n) c.self.view_is
    (takes_more was w c.args.piece.now n shown now
    (ap (λ (es : List LaneEvent). record { inspector = w; taken = v.taken + n; due = es; finished = v.finished }) c.of-self-inside.ensures)
    (ap (λ (l : Lane). l.due) c.self.view_is ∙ none_due c.args.self.now.due c.is_due.result c.is_due.ensures c.if-is_due.false)
    c.take_until_events-count.ensures.within c.take_until_events-count.ensures.goes_on c.take_until_events-count.ensures.shown c.take_until_events-count.ensures.all c.take_until_events-count.ensures.soon)

-- The lane at its place.
use Rattle.std.proofs.Common.{sym, subst, ◌+◌, ◌∙◌, ap, ◌<◌, ◌^◌, ℕ, length, min}
use Rattle.rx_front.proofs.Places.{count_is, fed_is, open_below, room_is}
use Rattle.rx_front.proofs.lanes.feed_at.Goals as goal

pub bounds-lanes-lane : goal.bounds-lanes-lane
bounds-lanes-lane c = open_below c.args.lane c.args.lanes.now c.requires.unfinished

pub feed-requires : goal.feed-requires
feed-requires c = subst (λ (n : ℕ). n + length c.args.piece.now < 2 ^ 57) (count_is c.args.lane c.args.lanes.now c.index-lanes-lane.result (open_below c.args.lane c.args.lanes.now c.requires.unfinished)) c.requires.few

pub returns-clause-count : goal.returns-clause-count
returns-clause-count c = c.feed.ensures.count ∙ ap (λ (n : ℕ). min (length c.args.piece.now) n) (sym (room_is c.args.lane c.args.lanes.now c.index-lanes-lane.result (open_below c.args.lane c.args.lanes.now c.requires.unfinished)))

pub returns-clause-lanes : goal.returns-clause-lanes
returns-clause-lanes c = fed_is c.args.lane _ c.args.lanes.now c.index-lanes-lane.result c.feed.new.self (open_below c.args.lane c.args.lanes.now c.requires.unfinished) c.feed.ensures.lane

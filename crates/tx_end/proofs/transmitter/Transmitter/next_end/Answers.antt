use Rattle.std.proofs.Common.{◌≡◌, ◌++◌, ◌∙◌, refl, subst, get_or, length, arith}
use Rattle.std.proofs.lemmas.List.{get_or_default}
use Rattle.std.specs.Vec.{with_item}
use Rattle.tx_end.specs.declared.lane_writer.LaneWriter.{LaneWriter}
use Rattle.tx_end.specs.Lanes.{HasEnded}
use Rattle.tx_end.proofs.Giving.{end_made, lanes_count}
use Rattle.tx_end.proofs.transmitter.Transmitter.next_end.Goals as goal

pub end_lane-requires-clause-room : goal.end_lane-requires-clause-room
end_lane-requires-clause-room c =
    let (a, is, over) = c.requires in
    let d = is.0.driven in
    omega (arith, d.place.room, d.link.metaframe.0)

pub returns : goal.returns
returns c a is =
    let t = c.args.self.now in
    let n = lanes_count t a is.0 in
    let lane : LaneWriter = c.index_mut.result.now in
    let at : (x : LaneWriter) → lane ≡ get_or t.lanes.items t.turn x = λ x. c.index_mut.ensures.value ∙ get_or_default t.lanes.items t.turn lane x (let low = is.1 in omega (arith, n, low)) in
    end_made t a c.end_lane.new.lane (with_item t.lanes t.turn c.end_lane.new.lane) c.end_lane.new.bytes is (c.requires.2) refl
    (λ x b. subst (λ (l : LaneWriter). HasEnded l b (b ++ c.end_lane.new.bytes.items)) (at x) (c.end_lane.ensures.ended b))
    (λ e x. subst (λ (l : LaneWriter). length l.bits ≡ 0) (at x) (c.end_lane.ensures.none e))
    (let r = is.0.driven.place.room in omega (arith, r, c.end_lane.ensures.room))

use Rattle.std.proofs.Common.{◌≡◌, ◌∙◌, refl, sym, subst, List, get_or, arith}
use Rattle.std.proofs.lemmas.List.{get_or_default}
use Rattle.std.specs.Vec.{with_item}
use Rattle.lk_base.specs.declared.word.Word.{Word}
use Rattle.lk_base.specs.Link.{Settings}
use Rattle.tx_end.specs.declared.lane_writer.LaneWriter.{LaneWriter}
use Rattle.tx_end.specs.Lanes.{Fills, HasFilled, HasRoom}
use Rattle.tx_end.specs.Sending.{made_on}
use Rattle.tx_end.proofs.Giving.{lanes_count, makes_of, metaframe_made}
use Rattle.tx_end.proofs.transmitter.Transmitter.next_metaframe.Goals as goal

pub fill_lane-requires-clause-filled : goal.fill_lane-requires-clause-filled
fill_lane-requires-clause-filled c =
    let (a, is, going) = c.requires in
    let t = c.args.self.now in
    let m = makes_of t a is.0 going in
    let lane : LaneWriter = c.index_mut-lane.result.now in
    let (before, made, filled, words, one) = m.turns.still t.turn lane (omega arith) is.1 in (
      before,
      made,
      made_on t a.outs t.turn,
      subst (λ (s : Settings). HasFilled lane s t.turn before made (made_on t a.outs t.turn)) (sym is.0.driven.settings) (subst (λ (l : LaneWriter). HasFilled l a.settings t.turn before made (made_on t a.outs t.turn)) (sym c.index_mut-lane.ensures.value) filled),
    )

pub returns : goal.returns
returns c a is =
    let t = c.args.self.now in
    let d = is.0.driven in
    let n = lanes_count t a is.0 in
    let lane : LaneWriter = c.index_mut-lane.result.now in
    let at : (x : LaneWriter) → lane ≡ get_or t.lanes.items t.turn x = λ x. c.index_mut-lane.ensures.value ∙ get_or_default t.lanes.items t.turn lane x (let low = is.1 in omega (arith, n, low)) in
    metaframe_made t a c.fill_lane.new.lane (with_item t.lanes t.turn c.fill_lane.new.lane) c.fill_lane.new.bytes is (c.requires.2) refl
    (λ x.
    subst (λ (l : LaneWriter). Fills a.settings t.turn t.group.items l c.fill_lane.new.lane c.fill_lane.new.bytes.items) (at x)
    (subst (λ (g : List Word). Fills a.settings t.turn g lane c.fill_lane.new.lane c.fill_lane.new.bytes.items) c.deref.ensures.value
    (subst (λ (s : Settings). Fills s t.turn c.deref.result.now lane c.fill_lane.new.lane c.fill_lane.new.bytes.items) d.settings c.fill_lane.ensures.fills)))
    (subst (λ (s : Settings). HasRoom s c.fill_lane.new.bytes) d.settings c.fill_lane.ensures.room)

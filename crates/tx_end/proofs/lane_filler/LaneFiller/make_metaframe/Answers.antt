use Rattle.std.proofs.Common.{◌<◌, ◌∙◌, refl, sym, ap, subst, length, get_or, arith}
use Rattle.std.proofs.Math.ListN.{set}
use Rattle.std.proofs.lemmas.List.{get_or_default}
use Rattle.tx_end.specs.declared.lane_writer.LaneWriter.{LaneWriter}
use Rattle.tx_end.specs.Lanes.{Fills, HasFilled}
use Rattle.tx_end.specs.Rounds.{Filler, MakesMetaframe}
use Rattle.tx_end.proofs.lane_filler.LaneFiller.make_metaframe.Goals as goal

pub fill_lane-requires-clause-filled : goal.fill_lane-requires-clause-filled
fill_lane-requires-clause-filled c =
    let (given, made, before, h) = c.requires.filled in
    let n = c.args.number in
    let lane : LaneWriter = c.index_mut-lane.result.now in (
      given,
      made,
      before,
      subst (λ (l : LaneWriter). HasFilled l c.self.inside.link n given made before) (sym c.index_mut-lane.ensures.value)
          (subst (λ (v : Filler). HasFilled (get_or v.lanes n lane) v.settings n given made before) (sym c.self.view_is) (h lane)),
    )

pub returns-clause-makes : goal.returns-clause-makes
returns-clause-makes c =
    let n = c.args.number in
    let v = c.self.inside in
    let lane : LaneWriter = c.index_mut-lane.result.now in
    let there : n < length v.lanes.items = (let i = c.self.invariant.1 in let e = ap (λ (f : Filler). f.settings.lanes) c.self.view_is in omega (arith, i, e, c.requires.lane)) in
    subst (λ (f : Filler). MakesMetaframe f.settings n c.args.group.now f.lanes (set v.lanes.items n c.fill_lane.new.lane) c.fill_lane.new.bytes.items) c.self.view_is
    (record {
      lane = c.fill_lane.new.lane;
      did = λ d. subst (λ (l : LaneWriter). Fills v.link n c.args.group.now l c.fill_lane.new.lane c.fill_lane.new.bytes.items) (c.index_mut-lane.ensures.value ∙ get_or_default v.lanes.items n lane d there) c.fill_lane.ensures.fills;
      lanes = refl;
    })

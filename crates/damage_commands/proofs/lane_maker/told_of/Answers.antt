use Rattle.std.proofs.Common.{◌∙◌}
use Rattle.std.proofs.lemmas.List.{get_or_read}
use Rattle.link_plan.specs.ScheduleViews.{schedule_value}
use Rattle.link_replay.specs.Damages.{lane_damage}
use Rattle.damage_commands.proofs.Arrived.{room, same_line, struck_is}
use Rattle.damage_commands.proofs.lane_maker.told_of.Goals as goal

pub struck_bits-requires-clause-there : goal.struck_bits-requires-clause-there
struck_bits-requires-clause-there c =
    room (lane_damage (schedule_value c.args.schedule.now) c.args.lane) c.args.sent.now c.args.received.now c.index-skew.result.now
    (get_or_read c.args.schedule.now.skews.items c.args.lane c.index-skew.result.now c.requires.lane c.index-skew.ensures 0) c.requires.received

pub returns : goal.returns
returns c =
    let skew = get_or_read c.args.schedule.now.skews.items c.args.lane c.index-skew.result.now c.requires.lane c.index-skew.ensures 0 in
    same_line c.args.lane c.index-skew.result.now c.struck_bits.result c.unused_rows.result _ _ _ skew
    (c.struck_bits.ensures ∙ struck_is (lane_damage (schedule_value c.args.schedule.now) c.args.lane) c.args.sent.now c.args.received.now c.index-skew.result.now skew c.requires.received)
    c.unused_rows.ensures

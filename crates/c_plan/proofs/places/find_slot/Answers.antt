-- The bit of a word that is counted.
use Rattle.std.proofs.Common.{rules, ◌<◌, ◌≤◌, ◌^◌}
use Rattle.c_plan.proofs.SlotFits.{slot_fits}
use Rattle.c_plan.proofs.places.find_slot.Goals as goal

pub overflow_mul-result : goal.overflow_mul-result
overflow_mul-result c =
    let lanes : 1 ≤ c.lanes-lanes.result = rw c.lanes-lanes.ensures c.keeps_limits.ensures.lanes.0 in
    let long : 32 ≤ c.metaframe-metaframe.result = rw c.metaframe-metaframe.ensures c.keeps_limits.ensures.metaframe.0 in
    let short : c.metaframe-metaframe.result ≤ 8192 = rw c.metaframe-metaframe.ensures c.keeps_limits.ensures.metaframe.1 in
    let skips : c.skips.result ≤ 4 = rw c.skips.ensures c.keeps_limits.ensures.skips.1 in
    let low : c.args.slot < 2 ^ 56 = (let below = c.if-slot-ge-SLOTS_LIMIT.false in search rules) in
    record { fits = slot_fits c.args.slot c.lanes-lanes.result c.metaframe-metaframe.result c.skips.result low lanes long short skips }

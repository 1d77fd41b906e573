use Rattle.std.proofs.Common.{◌≡◌, ◌∙◌, ap, ◌+◌, ◌*◌, ◌^◌, ◌<◌, ◌≤◌, ◌++◌, ◌==◌, true, length, replicate, map, filter, sym, subst, arith, rules, All, List}
use Rattle.std.specs.List.Sorted.{IsPermutation}
use Rattle.std.specs.Vec.{with_items}
use Rattle.std.proofs.lemmas.List.{length-replicate, with_items_is}
use Rattle.lane_model.specs.Damage.{received_bits}
use Rattle.lane_model.specs.LaneBits.{IsFileOf}
use Rattle.link_plan.specs.ScheduleViews.{schedule_value, flip_value, dark_value}
use Rattle.link_plan.specs.declared.schedule.Dark.{Dark}
use Rattle.lane_damage.specs.Bits.{darkened_by, turned_by}
use Rattle.link_replay.specs.Damages.{AreChanged, lane_damage, flips_on, darks_on}
use Rattle.link_replay.proofs.DarkSteps.{in_order_same, stretch}
use Rattle.link_replay.proofs.Whole.{received-whole, file-room}
use Rattle.link_replay.proofs.damaging.change.Goals as goal

pub invert_all-requires : goal.invert_all-requires
invert_all-requires c =
    let (sent, file, size) = c.requires.file in
    subst (λ bs. c.args.before + c.args.bits ≤ 8 * length bs) (sym c.deref_mut.ensures.value)
    (file-room (replicate c.args.before true) sent c.args.before c.args.bits c.args.bytes.now.items (length-replicate c.args.before true) size file)

pub darken-requires-clause-room : goal.darken-requires-clause-room
darken-requires-clause-room c =
    let (sent, file, size) = c.requires.file in
    let room = file-room (replicate c.args.before true) sent c.args.before c.args.bits c.args.bytes.now.items (length-replicate c.args.before true) size file in
    let first = c.invert_all.auto.bytes ∙ ap length c.deref_mut.ensures.value in
    let mid-is = with_items_is c.args.bytes.now c.invert_all.new.bytes (c.invert_all.auto.bytes ∙ c.deref_mut.ensures.len) in
    let second = ap length (c.deref_mut-2.ensures.value ∙ mid-is) in
    omega (arith, room, first, second)

pub returns-clause-changed : goal.returns-clause-changed
returns-clause-changed c sent file size =
    let schedule = c.args.schedule.now in
    let bits = c.args.bits in
    let start = c.args.bytes.now.items in
    let mid = c.invert_all.new.bytes in
    let end = c.darken.new.bytes in
    let turned-vec = with_items c.args.bytes.now mid in
    let mid-is : turned-vec.items ≡ mid = with_items_is c.args.bytes.now mid (c.invert_all.auto.bytes ∙ c.deref_mut.ensures.len) in
    let end-is : (with_items turned-vec end).items ≡ end = with_items_is turned-vec end (c.darken.auto.bytes ∙ c.deref_mut-2.ensures.len) in
    let mine = c.in_ok-darks.darks.items in
    let is = sym c.requires.skew in
    let flips = flips_on c.args.lane (map flip_value schedule.flips.items) in
    let darks = darks_on c.args.lane (map dark_value schedule.darks.items) in
    let turned = subst (λ k. AreChanged (turned_by flips) k bits start mid) is
    (subst (λ bs. AreChanged (turned_by flips) c.args.before bits bs mid) c.deref_mut.ensures.value
    (subst (λ fs. AreChanged (turned_by (flips_on c.args.lane (map flip_value fs))) c.args.before bits c.deref_mut.result.now mid) c.deref-2.ensures.value c.invert_all.ensures)) in
    let same = subst (λ (ds : List Dark). IsPermutation (filter (λ (d : Dark). d.lane == c.args.lane) ds) mine) c.deref.ensures.value c.in_ok-darks.ensures.same in
    let all = in_order_same c.args.lane c.args.before bits schedule.darks.items mine mid end same
    (subst (λ bs. AreChanged (darkened_by (map stretch mine)) c.args.before bits bs end) (c.deref_mut-2.ensures.value ∙ mid-is)
    (subst (λ (ds : List Dark). AreChanged (darkened_by (map stretch ds)) c.args.before bits c.deref_mut-2.result.now end) c.deref-3.ensures.value c.darken.ensures)) in
    let darkened = subst (λ k. AreChanged (darkened_by darks) k bits mid end) is all in
    let each : All (λ b. b < 2 ^ 8) end = search rules in
    subst (λ bs. IsFileOf bs (received_bits (lane_damage (schedule_value schedule) c.args.lane) sent)) (sym end-is)
    (received-whole (lane_damage (schedule_value schedule) c.args.lane) sent bits size start mid end (subst (λ k. IsFileOf start (replicate k true ++ sent)) is file) turned darkened each)

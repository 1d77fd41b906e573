-- The lock of one more lane comes.
use Rattle.std.proofs.Common.{ℕ, sym, ap, ◌∙◌, subst, ◌<◌, ◌^◌, Option, get_or}
use Rattle.rx_front.specs.Locks.{declared_at}
use Rattle.link_replay.specs.Lanes.{WatchedLane, noted}
use Rattle.link_replay.proofs.Locks.{IsNoted, all_noted}
use Rattle.link_replay.proofs.Stepping.{none-made, one-made, still}
use Rattle.link_replay.proofs.lanes.note_locks.Goals as goal

pub note-requires : goal.note-requires
note-requires c =
    let R = IsNoted c.args.link.now.metaframe c.args.made (λ k. declared_at k c.args.front.now) in
    let i = c.loop-i.i in
    let d = c.index-lanes-i.result in
    subst (λ (v : WatchedLane). v.strange < 2 ^ 60) (sym (still R i c.args.lanes.now c.loop-i.lanes d c.loop-i.invariant)) (c.requires.few i d c.loop-i-test.true)

pub loop-i-init : goal.loop-i-init
loop-i-init c = none-made (IsNoted c.args.link.now.metaframe c.args.made (λ k. declared_at k c.args.front.now)) c.args.lanes.now

pub loop-i-preserved : goal.loop-i-preserved
loop-i-preserved c =
    let L = c.args.link.now.metaframe in
    let R = IsNoted L c.args.made (λ k. declared_at k c.args.front.now) in
    let i = c.loop-i.i in
    one-made R i c.args.lanes.now c.loop-i.lanes c.index-lanes-i.result c.note.new.self c.loop-i-test.true c.loop-i.invariant
    (c.note.ensures ∙ ap (λ (o : Option ℕ). noted L c.args.made o (get_or c.loop-i.lanes i c.index-lanes-i.result)) c.declared.ensures.value)

pub returns : goal.returns
returns c = all_noted c.args.link.now.metaframe c.args.made (λ k. declared_at k c.args.front.now) c.loop-i.i c.args.lanes.now c.loop-i.lanes c.loop-i-test.false c.loop-i.invariant

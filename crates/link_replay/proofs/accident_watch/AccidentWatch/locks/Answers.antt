-- The lanes with their locks more.
use Rattle.std.proofs.Common.{ℕ, ◌≡◌, refl, sym, ap, ◌∙◌, subst, List}
use Rattle.std.proofs.lemmas.List.{with_items_is}
use Rattle.std.specs.Vec.{with_items}
use Rattle.rx_front.specs.Locks.{declared_at}
use Rattle.link_replay.specs.Lanes.{AreNoted, WatchedLane}
use Rattle.link_replay.specs.Standing.{Holds, IsSame, Watch, Watches, skews_of, with_lanes}
use Rattle.link_replay.proofs.Items.{lanes_held, lanes_watched}
use Rattle.link_replay.proofs.Locks.{noted_skews}
use Rattle.link_replay.proofs.accident_watch.AccidentWatch.locks.Goals as goal

pub returns-clause-same : goal.returns-clause-same
returns-clause-same c =
    let v = c.self.inside in
    let was : Watch = record { settings = v.link; skew = v.skew; lanes = v.lanes.items; stretch = v.stretch; groups = v.groups; stretches = v.stretches } in
    let now = c.note_locks.new.lanes in
    let declared = λ (i : ℕ). declared_at i c.args.front.now in
    let noted : AreNoted v.link.metaframe c.made-made.result declared v.lanes.items now = subst (λ (ls : List WatchedLane). AreNoted v.link.metaframe c.made-made.result declared ls now) c.deref_mut.ensures.value c.note_locks.ensures in
    let items : (with_items v.lanes now).items ≡ now = with_items_is v.lanes now (c.note_locks.auto.lanes ∙ c.deref_mut.ensures.len) in
    let same : IsSame was (with_lanes (with_items v.lanes now).items was) = record { settings = refl; skews = ap skews_of items ∙ noted_skews v.link.metaframe c.made-made.result declared v.lanes.items now noted } in
    subst (λ (x : Watch). IsSame x (with_lanes (with_items v.lanes now).items was)) c.self.view_is same

pub returns-clause-holds : goal.returns-clause-holds
returns-clause-holds c = λ before later given more h. (
    let v = c.self.inside in
    let was : Watch = record { settings = v.link; skew = v.skew; lanes = v.lanes.items; stretch = v.stretch; groups = v.groups; stretches = v.stretches } in
    let now = c.note_locks.new.lanes in
    let declared = λ (i : ℕ). declared_at i c.args.front.now in
    let noted : AreNoted v.link.metaframe c.made-made.result declared v.lanes.items now = subst (λ (ls : List WatchedLane). AreNoted v.link.metaframe c.made-made.result declared ls now) c.deref_mut.ensures.value c.note_locks.ensures in
    let items : (with_items v.lanes now).items ≡ now = with_items_is v.lanes now (c.note_locks.auto.lanes ∙ c.deref_mut.ensures.len) in
    subst (λ (ls : List WatchedLane). Holds (with_lanes ls was) c.args.sent.now later given) (sym items)
    (lanes_held was c.args.sent.now now c.made-made.result declared c.made-made.ensures.value noted before later given more
    (subst (λ (x : Watch). Holds x c.args.sent.now before given) (sym c.self.view_is) h)))

pub returns-clause-watches : goal.returns-clause-watches
returns-clause-watches c = λ lanes before later given more w. (
    let v = c.self.inside in
    let was : Watch = record { settings = v.link; skew = v.skew; lanes = v.lanes.items; stretch = v.stretch; groups = v.groups; stretches = v.stretches } in
    let now = c.note_locks.new.lanes in
    let declared = λ (i : ℕ). declared_at i c.args.front.now in
    let noted : AreNoted v.link.metaframe c.made-made.result declared v.lanes.items now = subst (λ (ls : List WatchedLane). AreNoted v.link.metaframe c.made-made.result declared ls now) c.deref_mut.ensures.value c.note_locks.ensures in
    let items : (with_items v.lanes now).items ≡ now = with_items_is v.lanes now (c.note_locks.auto.lanes ∙ c.deref_mut.ensures.len) in
    subst (λ (ls : List WatchedLane). Watches (with_lanes ls was) c.args.sent.now lanes later given) (sym items)
    (lanes_watched was c.args.sent.now now c.made-made.result declared c.made-made.ensures.value noted before later given more lanes
    (subst (λ (x : Watch). Watches x c.args.sent.now lanes before given) (sym c.self.view_is) w)))

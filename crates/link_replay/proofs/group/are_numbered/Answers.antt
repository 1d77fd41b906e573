-- One more lane.
use Rattle.std.proofs.Common.{◌≡◌, ◌+◌, ◌*◌, sym, ap, ◌∙◌, subst, get_or, arith, inl, inr}
use Rattle.std.proofs.lemmas.Bool.{cases_lt}
use Rattle.std.proofs.lemmas.List.{get_or-map, length-map}
use Rattle.deskew.specs.Lanes.{fresh_lane}
use Rattle.link_replay.specs.Groups.{starts_of}
use Rattle.link_replay.specs.Lanes.{WatchedLane}
use Rattle.link_replay.specs.Standing.{skews_of}
use Rattle.link_replay.proofs.SentGroups.{number-other, numbers-equal}
use Rattle.link_replay.proofs.group.are_numbered.Goals as goal

pub returns-then-start-skew : goal.returns-then-start-skew
returns-then-start-skew c = λ words. (
    let i = c.loop-i.i in
    let lt = c.loop-i-test.true in
    let n = c.requires.count in
    let l = length-map c.args.front.now.deskew.lanes (λ l. l.start) in
    let m = length-map c.args.lanes.now (λ (v : WatchedLane). v.skew) in
    let start = get_or-map (λ l. l.start) c.args.front.now.deskew.lanes i (fresh_lane 0) 0 (omega (arith, n, l, lt)) in
    let skew = get_or-map (λ (v : WatchedLane). v.skew) c.args.lanes.now i c.index-lanes-i.result 0 lt ∙ ap (λ (v : WatchedLane). v.skew) (sym c.index-lanes-i.is) in
    let a = c.start.ensures.value in
    let b = c.skew.ensures in
    let r = ap (λ k. 67 * (c.args.number * k)) c.metaframe.ensures in
    let other = c.if-start-skew.true in
    sym (number-other (record { settings = c.args.link.now; words = words; skews = skews_of c.args.lanes.now }) c.args.number (skews_of c.args.lanes.now) (starts_of c.args.front.now) i (omega (arith, m, lt)) (omega (arith, n, m))
    (λ e. other (omega (arith, e, start, skew, a, b, r)))))

pub loop-i-preserved : goal.loop-i-preserved
loop-i-preserved c = λ j below. elim (cases_lt j c.loop-i.i) [
  | inl less ↦ c.loop-i.invariant j less
  | inr other ↦ (
      let i = c.loop-i.i in
      let lt = c.loop-i-test.true in
      let n = c.requires.count in
      let l = length-map c.args.front.now.deskew.lanes (λ l. l.start) in
      let start = get_or-map (λ l. l.start) c.args.front.now.deskew.lanes i (fresh_lane 0) 0 (omega (arith, n, l, lt)) in
      let skew = get_or-map (λ (v : WatchedLane). v.skew) c.args.lanes.now i c.index-lanes-i.result 0 lt ∙ ap (λ (v : WatchedLane). v.skew) (sym c.index-lanes-i.is) in
      let a = c.start.ensures.value in
      let b = c.skew.ensures in
      let r = ap (λ k. 67 * (c.args.number * k)) c.metaframe.ensures in
      let same = c.if-start-skew.false in
      let e : i ≡ j = omega (arith, below, other) in
      subst (λ k. get_or (starts_of c.args.front.now) k 0 ≡ get_or (skews_of c.args.lanes.now) k 0 + 67 * (c.args.number * c.args.link.now.metaframe)) e
      (omega (arith, start, skew, a, b, r, same)))
]

pub returns : goal.returns
returns c = λ words. (
    let m = length-map c.args.lanes.now (λ (v : WatchedLane). v.skew) in
    let n = c.requires.count in
    let over = c.loop-i-test.false in
    sym (numbers-equal (record { settings = c.args.link.now; words = words; skews = skews_of c.args.lanes.now }) c.args.number (skews_of c.args.lanes.now) (starts_of c.args.front.now) (omega (arith, n, m))
    (λ j lt. c.loop-i.invariant j (omega (arith, lt, m, over)))))

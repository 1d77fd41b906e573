-- One more lane has as many bytes as all so far.
use Rattle.std.proofs.Common.{ℕ, ◌≡◌, sym, subst, ◌+◌, ◌<◌, ◌≤◌, List, [], ◌∷◌, ◌++◌, length, get_or, take, All, arith}
use Rattle.std.proofs.lemmas.List.{take_all, take_more}
use Rattle.std.proofs.lemmas.List.Elements.{All-nil, All-push, All-cons, All-head, All-tail}
use Rattle.rx_front.specs.States.{Lane}
use Rattle.rx_front.specs.Lanes.{HasBytes}
use Rattle.rx_front.proofs.lanes.whole_rounds.Goals as goal

fewer : (n m : ℕ) (lanes : List Lane) → m ≤ n → All (HasBytes n) lanes → All (HasBytes m) lanes
fewer n m [] le h = All-nil (HasBytes m)
fewer n m (v ∷ lanes) le h = All-cons (HasBytes m) v lanes (let a : n ≤ length v.ring = All-head (HasBytes n) v lanes h in omega (arith, a, le)) (fewer n m lanes le (All-tail (HasBytes n) v lanes h))

more : (n : ℕ) (lanes : List Lane) (i : ℕ) (d : Lane) → i < length lanes → d ≡ get_or lanes i d → All (HasBytes n) (take i lanes) → HasBytes n d → All (HasBytes n) (take (i + 1) lanes)
more n lanes i d lt is before here =
    subst (λ (vs : List Lane). All (HasBytes n) vs) (sym (take_more lanes i d lt))
    (subst (λ (x : Lane). All (HasBytes n) (take i lanes ++ x ∷ [])) is (All-push (HasBytes n) (take i lanes) d before here))

pub loop-lane-preserved : goal.loop-lane-preserved
loop-lane-preserved c = record {
  most = (let a = c.loop-lane.invariant.most in let b = c.min-count.ensures in omega (arith, a, b));
  there = more c.min-count.result c.args.lanes.now c.loop-lane.lane-index c.lane-item.result c.loop-lane-test.true c.lane-item.is
      (fewer c.loop-lane.count c.min-count.result (take c.loop-lane.lane-index c.args.lanes.now) (let b = c.min-count.ensures in omega (arith, b)) c.loop-lane.invariant.there)
      (c.bytes_there.ensures c.min-count.result (let b = c.min-count.ensures in omega (arith, b)));
}

pub returns-clause-there : goal.returns-clause-there
returns-clause-there c = subst (λ (vs : List Lane). All (HasBytes c.loop-lane.count) vs) (take_all c.loop-lane.lane-index c.args.lanes.now c.loop-lane-test.false) c.loop-lane.invariant.there

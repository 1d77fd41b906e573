-- The counts of a counter that was told of all.
use Rattle.std.proofs.Common.{ℕ, List, ◌<◌, ◌^◌, ap, sym, subst, map, ◌∙◌}
use Rattle.event_model.specs.Fed.{whole}
use Rattle.rx_front.specs.Standing.{locks_at}
use Rattle.link_replay.specs.Counting.{Counter}
use Rattle.link_replay.specs.Lanes.{strange_sum}
use Rattle.link_replay.proofs.CountedAll.{counted_all}
use Rattle.link_replay.proofs.CounterTold.{locks_apart, strange_few}
use Rattle.link_replay.proofs.counter.Counter.counts.Goals as goal

pub counts-requires : goal.counts-requires
counts-requires c =
    let f = c.requires.0 in
    let s = c.requires.1 in
    let lanes = map whole c.requires.2 in
    let all = c.requires.3 in
    let locks : ℕ → List ℕ = λ i. locks_at i all.t in
    let v = c.args.self.now in
    subst (λ (x : Counter). strange_sum x.watch.lanes < 2 ^ 64) (sym c.self.view_is)
    (strange_few v f s lanes all.items all.t locks all.items all.knows (locks_apart v f s lanes all.items all.t locks all.items all.knows))

pub returns : goal.returns
returns c = λ f s lanes all. (
    let e = c.counts.ensures in
    let v = c.self.view_is in
    counted_all c.args.self.now f s lanes all c.counts.result (e.locks ∙ ap (λ (x : Counter). strange_sum x.watch.lanes) v)
    (e.groups ∙ ap (λ (x : Counter). x.watch.groups) v) (e.stretches ∙ ap (λ (x : Counter). x.watch.stretches) v))

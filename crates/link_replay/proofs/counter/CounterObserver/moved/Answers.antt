-- The lanes' locks.
use Rattle.std.proofs.Common.{ℕ, ◌≤◌, refl, sym, subst, List, length, map, arith}
use Rattle.rx_end.specs.Observing.{TakesLocks}
use Rattle.rx_front.specs.Standing.{locks_at}
use Rattle.link_laws.specs.Received.{whole_lane}
use Rattle.link_replay.specs.Counting.{Counter, Counts, HasCounted}
use Rattle.link_replay.specs.Lanes.{HaveFew}
use Rattle.link_replay.proofs.CounterTold.{apart_before, have_few, lanes_many, learns, locks_apart}
use Rattle.link_replay.proofs.counter.CounterObserver.moved.Goals as goal

pub locks-requires-clause-there : goal.locks-requires-clause-there
locks-requires-clause-there c =
    let f = c.args.front.now in
    let k = c.requires refl in
    let n = (lanes_many c.args.self.now f k.s k.fed k.items k.t k.before k.items k.knows).0 in
    subst (λ (x : Counter). length x.watch.lanes ≤ length f.lanes) (sym c.self.view_is) (omega (arith, n))

pub locks-requires-clause-few : goal.locks-requires-clause-few
locks-requires-clause-few c =
    let f = c.args.front.now in
    let v = c.args.self.now in
    let k = c.requires refl in
    let apart = locks_apart v f k.s k.fed k.items k.t k.before k.items k.knows in
    subst (λ (x : Counter). HaveFew x.watch.lanes) (sym c.self.view_is)
    (have_few v f k.s k.fed k.items k.t k.before k.items k.knows (apart_before k.s f k.t k.before k.later apart))

pub returns-clause-takes : goal.returns-clause-takes
returns-clause-takes c =
    let f = c.args.front.now in
    let v = c.self.inside.watch in
    let u = c.locks.new.self in
    let words = c.self.inside.sent.now in
    let e = c.locks.ensures in
    subst (λ (x : Counter). TakesLocks Counts HasCounted x (record { watch = u; words = words }) f) c.self.view_is
    (λ s fed items t before later k.
    let now : ℕ → List ℕ = λ i. locks_at i t in
    learns words v u e.same f s fed items t before now items items k (e.holds before now items later)
    (λ lanes begin seen. e.watches (map (whole_lane s) seen.all) before now items later seen.watches))

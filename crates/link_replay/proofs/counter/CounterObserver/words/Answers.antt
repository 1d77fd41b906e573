-- The first words that wait.
use Rattle.std.proofs.Common.{ℕ, ◌<◌, ◌+◌, ◌^◌, refl, sym, subst, List, map, arith}
use Rattle.rx_end.specs.Observing.{TakesWords}
use Rattle.rx_front.specs.Standing.{locks_at}
use Rattle.link_laws.specs.Received.{whole_lane}
use Rattle.link_replay.specs.Counting.{Counter, Counts, HasCounted}
use Rattle.link_replay.proofs.CounterTold.{items_few, learns}
use Rattle.link_replay.proofs.counter.CounterObserver.words.Goals as goal

pub words-requires-clause-room : goal.words-requires-clause-room
words-requires-clause-room c =
    let k = c.requires.told refl in
    let few = items_few c.args.self.now c.args.front.now k.s k.fed k.items k.t (λ i. locks_at i k.t) k.items k.knows in
    let low = k.knows.kept.held.few_stretches in
    let most = c.requires.most in
    let count = c.args.count in
    subst (λ (x : Counter). x.watch.stretches + count < 2 ^ 63) (sym c.self.view_is) (omega (arith, few, low, most))

pub returns-clause-takes : goal.returns-clause-takes
returns-clause-takes c =
    let f = c.args.front.now in
    let v = c.self.inside.watch in
    let u = c.words.new.self in
    let words = c.self.inside.sent.now in
    let e = c.words.ensures in
    subst (λ (x : Counter). TakesWords Counts HasCounted x (record { watch = u; words = words }) f c.args.count) c.self.view_is
    (λ s fed items t k.
    let locks : ℕ → List ℕ = λ i. locks_at i t in
    learns words v u e.same f s fed items t locks locks items _ k
    (λ h. e.holds locks items h)
    (λ lanes begin seen. e.watches (map (whole_lane s) seen.all) locks items seen.watches))

-- An item.
use Rattle.std.proofs.Common.{ℕ, ◌≤◌, ◌<◌, ◌+◌, ◌^◌, refl, sym, subst, List, [], ◌∷◌, ◌++◌, length, map, arith}
use Rattle.std.proofs.lemmas.List.{length-append}
use Rattle.rx_end.specs.Observing.{TakesItem}
use Rattle.rx_front.specs.Standing.{locks_at}
use Rattle.link_laws.specs.Received.{whole_lane}
use Rattle.link_replay.specs.Counting.{Counter, Counts, HasCounted}
use Rattle.link_replay.specs.Groups.{starts_of}
use Rattle.link_replay.specs.Standing.{TellsItem}
use Rattle.link_replay.proofs.CounterTold.{items_few, lanes_many, learns, no_items, shows, tells}
use Rattle.link_replay.proofs.counter.CounterObserver.item.Goals as goal

pub item-requires-clause-groups : goal.item-requires-clause-groups
item-requires-clause-groups c =
    let k = c.requires.told refl in
    let few = items_few c.args.self.now c.args.front.now k.s k.fed (k.items ++ c.args.item ∷ []) k.t (λ i. locks_at i k.t) k.items k.knows in
    let l = length-append k.items (c.args.item ∷ []) in
    let low = k.knows.kept.held.few_groups in
    subst (λ (x : Counter). x.watch.groups < 2 ^ 63) (sym c.self.view_is) (omega (arith, few, low, l))

pub item-requires-clause-stretches : goal.item-requires-clause-stretches
item-requires-clause-stretches c =
    let k = c.requires.told refl in
    let few = items_few c.args.self.now c.args.front.now k.s k.fed (k.items ++ c.args.item ∷ []) k.t (λ i. locks_at i k.t) k.items k.knows in
    let l = length-append k.items (c.args.item ∷ []) in
    let low = k.knows.kept.held.few_stretches in
    subst (λ (x : Counter). x.watch.stretches + 1 < 2 ^ 63) (sym c.self.view_is) (omega (arith, few, low, l))

pub item-requires-clause-there : goal.item-requires-clause-there
item-requires-clause-there c =
    let f = c.args.front.now in
    let k = c.requires.told refl in
    let n = (lanes_many c.args.self.now f k.s k.fed (k.items ++ c.args.item ∷ []) k.t (λ i. locks_at i k.t) k.items k.knows).0 in
    subst (λ (x : Counter). length x.watch.lanes ≤ length f.lanes) (sym c.self.view_is) (omega (arith, n))

pub item-requires-clause-told : goal.item-requires-clause-told
item-requires-clause-told c =
    let f = c.args.front.now in
    let k = c.requires.told refl in
    subst (λ (x : Counter). TellsItem x.watch c.args.item (starts_of f)) (sym c.self.view_is)
    (tells c.args.self.now f k.s k.fed k.items k.t (λ i. locks_at i k.t) (no_items f.waiting c.requires.none) c.args.item k.knows)

pub returns-clause-takes : goal.returns-clause-takes
returns-clause-takes c =
    let f = c.args.front.now in
    let v = c.self.inside.watch in
    let u = c.item.new.self in
    let words = c.self.inside.sent.now in
    let e = c.item.ensures in
    let was : Counter = record { watch = v; words = words } in
    let none = no_items f.waiting c.requires.none in
    subst (λ (x : Counter). TakesItem Counts HasCounted x (record { watch = u; words = words }) f c.args.item) c.self.view_is
    (λ s fed items t k.
    let locks : ℕ → List ℕ = λ i. locks_at i t in
    learns words v u e.same f s fed (items ++ c.args.item ∷ []) t locks locks items _ k (e.holds locks items)
    (λ lanes begin seen. e.watches (map (whole_lane s) seen.all) locks items (shows was f s fed items t locks none c.args.item k lanes begin seen) seen.watches))

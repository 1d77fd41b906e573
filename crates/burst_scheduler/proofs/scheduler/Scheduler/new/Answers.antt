use Rattle.std.proofs.Common.{length, refl, ap}
use Rattle.lk_index_lists.specs.Held.{Held}
use Rattle.burst_scheduler.specs.Ring.{ring_list}
use Rattle.burst_scheduler.proofs.Making.{nothing_asked}
use Rattle.burst_scheduler.proofs.scheduler.Scheduler.new.Goals as goal

pub returns : goal.returns
returns c =
    let ring = c.in_ok-ready.ensures {u = tt} in
    let made = c.in_ok-queues.ensures {u = tt} in
    nothing_asked _ c.args.shape c.args.channels.now c.args.entries.now
    (record { sizes = refl; short = refl; group = refl; warm = refl; started = refl; slot = refl; free = refl; finish = refl; held = refl })
    (c.in_ok-burst.ensures {u = tt}) c.requires.distinct c.requires.among
    (c.in_ok-own.ensures {u = tt}).items (c.in_ok-incoming.ensures {u = tt})
    made.count
    (record { nodes = ap (λ (h : Held). h.nodes) ring.value; one = ap (λ (h : Held). length h.lists) ring.value; apart = ring.apart; few = c.requires.channels_high }, c.in_ok-order.ensures {u = tt})
    (ap (λ (h : Held). ring_list h) ring.value) made.empty

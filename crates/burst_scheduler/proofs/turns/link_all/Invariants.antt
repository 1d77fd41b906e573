use Rattle.std.proofs.Common.{◌≡◌, ◌+◌, ◌≤◌, take, filter}
use Rattle.lk_index_lists.specs.Held.{IsSameSize, IsApart}
use Rattle.burst_scheduler.specs.Ring.{ring_list, has_chunk, places_of}
use Rattle.burst_scheduler.proofs.turns.link_all.Given as goal

abbrev pub invariant-loop-i : goal.invariant-loop-i
invariant-loop-i l = record {
  line : ring_list l.ring ≡ filter (has_chunk l.queues) (take l.i (places_of l.order));
  size : IsSameSize l.fn.ring l.ring;
  apart : IsApart l.ring;
  links : l.ring.links ≤ l.fn.ring.links + l.i;
}

-- The line was filled for the first flow or step.
use Rattle.std.proofs.Common.{◌≡◌, ℕ, ◌+◌, ◌≤◌, true, false, List, length, filter, sym, ap, subst, ◌∙◌, arith, inl, inr}
use Rattle.burst_scheduler.specs.Asked.{Asked}
use Rattle.calendar.specs.Changes.{told_back}
use Rattle.lk_index_lists.specs.Held.{Held, IsApart, IsSameSize}
use Rattle.burst_scheduler.specs.Ring.{IsLine, ring_list, channels_at, has_chunk, places_of}
use Rattle.burst_scheduler.specs.Gives.{Holds, Runs, planned, HasWords, ChangesRing}
use Rattle.burst_scheduler.specs.declared.queue.Queue.{Queue}
use Rattle.burst_scheduler.specs.declared.scheduler.Scheduler.{Scheduler}
use Rattle.burst_scheduler.proofs.Filling.{first_line, as_many}
use Rattle.burst_scheduler.proofs.Turning.{same_ring}

-- the same scheduler with another ring
abbrev pub started_with : Scheduler → Held → Scheduler
started_with s ring = record s { ready = ring; started = true }

pub line_filled : (s : Scheduler) (a : Asked) (ring : Held) → Holds s a → s.started ≡ false → IsSameSize s.ready ring → IsApart ring
    → ring_list ring ≡ filter (has_chunk s.queues.items) (places_of s.order.items) → Holds (started_with s ring) a
line_filled s a ring g fresh same apart is = record {
  settings = g.settings;
  slot = g.slot;
  right = g.right;
  begun = g.begun;
  flow = g.flow;
  local = g.local;
  opened = g.opened;
  answered = g.answered;
  calls = g.calls;
  incoming = g.incoming;
  queues = g.queues;
  at = g.at;
  only = g.only;
  room = (same_ring s.ready ring (length a.source.channels) same apart g.room.0, g.room.1);
  line = λ _. subst (λ ps. IsLine a.source (told_back a.source.entries a.source.flow) (planned s a) (channels_at s.channels.items ps)) (sym is) (first_line s a g fresh);
  unstarted = λ f. let no : true ≡ false = f in cc;
  burst = g.burst;
  spaces = g.spaces;
}

pub runs_filled : (s : Scheduler) (a : Asked) (ring : Held) → Runs s a → s.started ≡ false → IsSameSize s.ready ring → IsApart ring
    → ring_list ring ≡ filter (has_chunk s.queues.items) (places_of s.order.items) → Runs (started_with s ring) a
runs_filled s a ring g fresh same apart is = record { words = line_filled s a ring g.words fresh same apart is; finish = g.finish; held = g.held; paced = g.paced }

pub changed_first : (s : Scheduler) (a : Asked) (ring : Held) → HasWords s a → s.started ≡ false → ring.links ≤ s.ready.links + length s.order.items → ChangesRing s (started_with s ring) a 0
changed_first s a ring g fresh few = record {
  first = let n : length s.order.items ≡ length a.source.channels = as_many a.source.channels s.order.items g.holds.room.1 in omega (arith, few, n);
  later = λ begun. let u = g.holds.unstarted fresh in elim begun [
    | inl w ↦ absurd (let l = ap length u.0 in omega (arith, w, l))
    | inr f ↦ absurd (let l = ap length u.1 in omega (arith, f, l))
  ];
}

-- what is linked, by the lists that were lent
pub line_of_all : (order lent : List (ℕ × ℕ)) (queues queues_lent : List Queue) (xs : List ℕ) → lent ≡ order → queues_lent ≡ queues → xs ≡ filter (has_chunk queues_lent) (places_of lent) → xs ≡ filter (has_chunk queues) (places_of order)
line_of_all order lent queues queues_lent xs e f is = is ∙ ap (λ os. filter (has_chunk queues_lent) (places_of os)) e ∙ ap (λ qs. filter (has_chunk qs) (places_of order)) f

-- What happens to a queue in a slot, what it stands for, and what an end has told by its queues.
use Rattle.std.specs.Prelude.{◌≡◌, ◌≢◌, ℕ, ◌+◌, ◌-◌, ◌<◌, ◌≤◌, max, Bool, false, List, ◌++◌, ◌==◌, nat_lt, if◌then◌else◌, Option, Some, None, length, take, All, Contains, slice_index_or}
use Rattle.std.specs.List.{AllPairs}
use Rattle.lk_base.specs.declared.word.Word.{Word}
use Rattle.stream_model.specs.declared.rows.LocalRow.{LocalRow}
use Rattle.calendar.specs.Outgoing.{last_local}
use Rattle.burst_scheduler.specs.Asked.{Asked, having_local}
use Rattle.burst_scheduler.specs.Gives.{HasWords}
use Rattle.burst_scheduler.specs.declared.scheduler.Scheduler.{Scheduler}
use Rattle.duplex_model.specs.DuplexRun.{Settings, queue_before, peak}
use Rattle.duplex.specs.declared.queue.ArrivalQueue.{ArrivalQueue}
use Rattle.duplex.specs.declared.queue.Queues.{Queues}

-- the channel is the one that is named
abbrev pub names : Option ℕ → ℕ → Bool
names None channel = false
names (Some named) channel = named == channel

abbrev pub empty_queue : ArrivalQueue
empty_queue = record { words = 0; peak = 0 }

-- the queue of a channel
abbrev pub queue_at : List ArrivalQueue → ℕ → ArrivalQueue
queue_at queues channel = slice_index_or queues channel empty_queue

-- a queue once a word may have joined it
abbrev pub joined_by : Bool → ArrivalQueue → ArrivalQueue
joined_by joins queue = if joins then record { words = queue.words + 1; peak = max queue.peak (queue.words + 1) } else queue

-- a queue once it may have lost a word
abbrev pub drained_by : Bool → ArrivalQueue → ArrivalQueue
drained_by drains queue = if drains then record { words = queue.words - 1; peak = queue.peak } else queue

-- the queue of a channel after a slot in which a word joined the queue of a channel, if of one
abbrev pub turned_in : Option ℕ → Bool → ℕ → ArrivalQueue → ArrivalQueue
turned_in joined drains channel queue = drained_by drains (joined_by (names joined channel) queue)

-- it is the queue of a channel before slot t, by what the other end sent
pub record IsQueueOf (settings : Settings) (sent : List Word) (t channel : ℕ) (queue : ArrivalQueue) : Type 0 where
  pub words : queue.words ≡ queue_before settings sent channel t
  pub most : queue.peak ≡ peak settings sent channel t

-- the first places hold the channels whose queues are not empty, each once
pub record AreFilled (queues : List ArrivalQueue) (filled : List ℕ) (count : ℕ) : Type 0 where
  pub within : count ≤ length filled
  pub only : (channel : ℕ) → Contains (take count filled) channel → 1 ≤ (queue_at queues channel).words
  pub all : (channel : ℕ) → 1 ≤ (queue_at queues channel).words → Contains (take count filled) channel
  pub distinct : AllPairs (λ (x y : ℕ). x ≢ y) (take count filled)

-- each channel has a queue
pub record AreQueues (queues : Queues) : Type 0 where
  pub wide : length queues.by_channel.items ≡ 65536
  pub room : length queues.filled.items ≡ 65536
  pub filled : AreFilled queues.by_channel.items queues.filled.items queues.count

-- what was asked, with these local rows as well
abbrev pub locals_added : Asked → List LocalRow → Asked
locals_added a rows = having_local a (a.source.local ++ rows)

-- With some rows of the present slot as well, the last row of each channel says what its queue says: on exactly where it is
-- below the mark. Of a channel that has no row nothing else was told.
pub record Tells (scheduler : Scheduler) (a : Asked) (mark : ℕ) (queues : List ArrivalQueue) : Type 0 where
  pub rows : List LocalRow
  pub here : All (λ (row : LocalRow). row.slot ≡ length a.words) rows
  pub words : HasWords scheduler (locals_added a rows)
  pub last : (channel : ℕ) → channel < 65536 → last_local (a.source.local ++ rows) channel ≡ nat_lt (queue_at queues channel).words mark

-- The order of the channels in their turns, and which is next.
use Rattle.std.specs.Prelude.{◌≡◌, ◌↔◌, ℕ, ◌<◌, Bool, true, false, ◌&&◌, List, length, take, All, Contains, Option, Some, None, slice_index_or}
use Rattle.std.specs.List.{AllPairs}
use Rattle.std.specs.declared.cmp.Ordering.TheVariants.{Less}
use Rattle.lk_base.specs.Checksum.{differ}
use Rattle.lk_base.specs.declared.word.Word.{Word}
use Rattle.stream_model.specs.BurstStream.{Source, mark_cmp, row_mark, last_burst, packets_of, bursts_in}
use Rattle.stream_model.specs.Calendar.{Told}
use Rattle.calendar.specs.Changes.{state_in}
use Rattle.burst_scheduler.specs.Ring.{key_by}
use Rattle.burst_scheduler.specs.declared.sizes.BurstSizes.{BurstSizes}
use Rattle.live_stream.specs.Waiting.{HasLeft, has_packets}
use Rattle.live_stream.specs.declared.waiting.Waiting.{Waiting}

-- the listed channels, each once, in the order of their keys by all that was told and the words below the slot
pub record AreInTurn (channels : List ℕ) (told : List Told) (before : List Word) (line : List ℕ) : Type 0 where
  pub exact : (channel : ℕ) → Contains line channel ↔ Contains channels channel
  pub ordered : AllPairs (λ a b. mark_cmp (key_by told before a) (key_by told before b) ≡ Less) line

-- an entry that may come next: it changes its channel, and its mark is later than the key of each channel
pub record IsTurn (told : List Told) (w : List Word) (e : Told) : Type 0 where
  pub changes : differ e.on (state_in told e.channel) ≡ true
  pub latest : (channel : ℕ) → mark_cmp (key_by told w channel) (row_mark e) ≡ Less
  pub bursts : (s : ℕ) → last_burst w e.channel (length w) ≡ Some s → s < e.slot

-- each queue has left what its channel has left after these words
abbrev pub HaveLeft : List Waiting → BurstSizes → Source → List Word → Type 0
HaveLeft turns sizes source w = All (λ (q : Waiting). HasLeft q sizes (packets_of source q.channel) (bursts_in w q.channel)) turns

-- ---- which channel is next

-- the channel is on by all that was told, and bytes of it are left
abbrev pub may_burst : List Told → Waiting → Bool
may_burst told q = state_in told q.channel && has_packets q

-- none may burst, or the one at this place may and none before it
abbrev pub IsFirstReady : List Told → List Waiting → Option ℕ → Type 0
IsFirstReady told turns None = All (λ (q : Waiting). may_burst told q ≡ false) turns
IsFirstReady told turns (Some at) =
    (at < length turns) × ((q : Waiting) → q ≡ slice_index_or turns at q → may_burst told q ≡ true) × All (λ (q : Waiting). may_burst told q ≡ false) (take at turns)

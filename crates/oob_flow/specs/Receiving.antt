-- What a reader of samples stands for: the samples that it has taken so far.
use Rattle.std.specs.Prelude.{◌≡◌, ℕ, ◌+◌, ◌-◌, ◌<◌, ◌≤◌, ◌==◌, min, Bool, true, false, List, [], ◌∷◌, ◌++◌, length, take}
use Rattle.stream_model.specs.declared.rows.FlowRow.{FlowRow}
use Rattle.oob_flow.specs.Samples.{clock_of}
use Rattle.oob_flow.specs.Frames.{sizes_left}
use Rattle.oob_flow.specs.Taken.{Taken, taken, until_sync}
use Rattle.oob_flow.specs.Words.{block_words}
use Rattle.oob_flow.specs.Reading.{states_of, is_right, rows_of_blocks, rows_of_bits}
use Rattle.oob_flow.specs.declared.incoming.OobIn.{OobIn}

-- the clock after samples
abbrev pub clock_after : Bool → List ℕ → Bool
clock_after before [] = before
clock_after before (sample ∷ samples) = clock_after (clock_of sample) samples

-- What bits to come give, where this many entries of the open frame are left from its open block on, which has these bits.
-- Where no entry is left the frame gives nothing more.
unfoldable pub rows_ahead : ℕ → ℕ → List Taken → List Taken → List FlowRow
rows_ahead entries left open_bits bits = rows_of_blocks (left == entries) (sizes_left left) (open_bits ++ until_sync bits) ++ rows_of_bits entries bits

-- the reader takes a calendar of this many entries and has taken these bits
pub record HasTaken (reader : OobIn) (entries : ℕ) (bits : List Taken) : Type 0 where
  pub calendar : reader.entries ≡ entries
  pub low : 1 ≤ entries
  -- the bits of the open block, which is not whole
  pub open_bits : List Taken
  pub block : reader.block.items ≡ states_of open_bits
  pub within : reader.left ≤ entries
  pub not_whole : length open_bits < min 64 reader.left + 4
  pub ahead : (more : List Taken) → rows_of_bits entries (bits ++ more) ≡ rows_of_bits entries bits ++ rows_ahead entries reader.left open_bits more

-- the reader takes a calendar of this many entries and has taken these samples
pub record StandsIn (reader : OobIn) (entries : ℕ) (samples : List ℕ) : Type 0 where
  pub clock : reader.clock ≡ clock_after false samples
  pub bits : HasTaken reader entries (taken samples)

-- What a reader does with its open block: it waits until the block is whole, and gives its words where it is right, and
-- else the one word 0.
pub record Closes (before after : OobIn) (words : List ℕ) : Type 0 where
  pub calendar : after.entries ≡ before.entries
  pub clock : after.clock ≡ before.clock
  pub waits : length before.block.items < min 64 before.left + 4 → (after.left ≡ before.left) × (after.block.items ≡ before.block.items) × (words ≡ [])
  pub right : min 64 before.left + 4 ≤ length before.block.items → is_right (min 64 before.left) before.block.items ≡ true
      → (after.left ≡ before.left - min 64 before.left) × (after.block.items ≡ []) × (words ≡ block_words (before.left == before.entries) (take (min 64 before.left) before.block.items))
  pub wrong : min 64 before.left + 4 ≤ length before.block.items → is_right (min 64 before.left) before.block.items ≡ false
      → (after.left ≡ 0) × (after.block.items ≡ []) × (words ≡ 0 ∷ [])

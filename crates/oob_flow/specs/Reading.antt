-- The rows of a flow file that samples give.
use Rattle.std.specs.Prelude.{ℕ, zero, suc, ◌+◌, Bool, true, false, List, [], ◌∷◌, ◌++◌, length, map, take, drop, if◌then◌else◌, ◌==◌, nat_lt}
use Rattle.std.specs.List.{flat_map}
use Rattle.stream_model.specs.declared.rows.FlowRow.{FlowRow}
use Rattle.oob_flow.specs.Frames.{block_sizes, block_checksum}
use Rattle.oob_flow.specs.Taken.{Taken, taken, frames_of}
use Rattle.oob_flow.specs.Words.{spelled, block_words}

-- a row for each word
abbrev pub rows_at : ℕ → List ℕ → List FlowRow
rows_at slot words = map (λ word. record { slot = slot; word = word }) words

abbrev pub states_of : List Taken → List Bool
states_of bits = map (λ (b : Taken). b.state) bits

-- the number of the sample that took the bit at a place
abbrev pub number_at : List Taken → ℕ → ℕ
number_at [] i = 0
number_at (b ∷ bits) zero = b.number
number_at (b ∷ bits) (suc i) = number_at bits i

-- the four checksum bits of a block of this size are those of its states
abbrev pub is_right : ℕ → List Bool → Bool
is_right size states = spelled (take 4 (drop size states)) == block_checksum (take size states)

-- What the blocks of these sizes give, where a frame's bits go on with these. A block counts when it is whole. Where it is
-- right it gives the words of its states; where it is wrong it gives the one word 0, and the rest of the frame nothing.
-- The slot is the number of the sample that took the block's last bit. Bits past the last block give nothing.
abbrev pub rows_of_blocks : Bool → List ℕ → List Taken → List FlowRow
rows_of_blocks is_first [] bits = []
rows_of_blocks is_first (size ∷ sizes) bits =
    if nat_lt (length bits) (size + 4) then []
    else if is_right size (states_of bits) then rows_at (number_at bits (size + 3)) (block_words is_first (take size (states_of bits))) ++ rows_of_blocks false sizes (drop (size + 4) bits)
    else rows_at (number_at bits (size + 3)) (0 ∷ [])

-- what a frame gives, where the calendar has this many entries
unfoldable pub rows_of_frame : ℕ → List Taken → List FlowRow
rows_of_frame entries bits = rows_of_blocks true (block_sizes entries) bits

-- what bits give
unfoldable pub rows_of_bits : ℕ → List Taken → List FlowRow
rows_of_bits entries bits = flat_map (rows_of_frame entries) (frames_of bits)

-- what samples give
unfoldable pub rows_of_samples : ℕ → List ℕ → List FlowRow
rows_of_samples entries samples = rows_of_bits entries (taken samples)

use Rattle.std.proofs.Common.{ℕ, ◌≡◌, ◌*◌, ◌/◌, ◌%◌, ◌<◌, slice_index}
use Rattle.cell_pool.specs.Cells.{byte_of_word}
use Rattle.cell_pool.proofs.cells.put_cell.Given as goal

-- the bytes of the words so far
abbrev pub invariant-loop-k : goal.invariant-loop-k
invariant-loop-k l = (i : ℕ) → i < 8 * l.k → slice_index l.bytes i ≡ byte_of_word (slice_index l.words (i / 8)) (i % 8)

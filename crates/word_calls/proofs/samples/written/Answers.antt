-- The first two frames of a calendar of one entry.
use Rattle.std.proofs.Common.{◌<◌, ◌^◌, [], ◌∷◌, arith}
use Rattle.oob_flow.specs.Frames.{frame_length, block_sizes}
use Rattle.oob_flow.specs.Written.{frame_begin}
use Rattle.word_calls.proofs.samples.written.Goals as goal

first_begin : frame_begin (1 ∷ []) 0 < 2 ^ 32
unfolding frame_length block_sizes
first_begin = omega arith

second_begin : frame_begin (1 ∷ []) 1 < 2 ^ 32
unfolding frame_length block_sizes
second_begin = omega arith

pub next-requires-clause-stands : goal.next-requires-clause-stands
next-requires-clause-stands c = (1 ∷ [], 0, c.in_ok-writer.ensures (c.args.row ∷ []), first_begin)

pub next-requires-2-clause-stands : goal.next-requires-2-clause-stands
next-requires-2-clause-stands c = (1 ∷ [], 1, c.in_ok-first.ensures.stands (1 ∷ []) 0 (c.in_ok-writer.ensures (c.args.row ∷ [])), second_begin)

use Rattle.std.proofs.Common.{◌≡◌, ◌+◌, ◌-◌, ◌≤◌, ℕ, Bool, List, length, vec_len, vec_capacity}
use Rattle.oob_flow.specs.Frames.{frame_length}
use Rattle.oob_flow.specs.Sending.{StandsOut}
use Rattle.oob_flow.proofs.Framing.{IsWithin}
use Rattle.oob_flow.proofs.frame_writer.append_frame.Given as goal

-- the first samples of the frame are there, and the others have room
abbrev pub invariant-loop-place : goal.invariant-loop-place
invariant-loop-place l = record {
  room : vec_len l.samples + (l.size - l._place) ≤ vec_capacity l.samples;
  frame : (entries : List ℕ) (states : ℕ → Bool) (shown : List Bool) → StandsOut l.initial.out entries states shown 0 → l.size ≡ frame_length (length entries)
      → IsWithin l.out entries states shown l._place l.initial.samples.items l.samples.items;
}

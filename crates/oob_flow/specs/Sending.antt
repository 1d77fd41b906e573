-- What a maker of samples stands for: the states that were set so far, and where in a frame it is.
use Rattle.std.specs.Prelude.{◌≡◌, ℕ, ◌+◌, ◌<◌, ◌≤◌, ◌==◌, Bool, false, List, length, map, if◌then◌else◌, slice_index_or}
use Rattle.oob_flow.specs.Frames.{frame_bits, frame_length}
use Rattle.oob_flow.specs.declared.outgoing.OobOut.{OobOut}

-- the states, where this channel is set
abbrev pub with_state : (ℕ → Bool) → ℕ → Bool → ℕ → Bool
with_state states channel on c = if c == channel then on else states c

-- what the frame of the next sample shows: a frame that begins shows the states that were set until then
abbrev pub showing : List ℕ → (ℕ → Bool) → List Bool → ℕ → List Bool
showing entries states shown given = if given == 0 then map states entries else shown

-- how many samples of its frame are given once one more is
abbrev pub one_given : List ℕ → ℕ → ℕ
one_given entries given = if given + 1 == frame_length (length entries) then 0 else given + 1

-- the maker has these entries and these states, and has given this many samples of a frame that shows these states
pub record StandsOut (out : OobOut) (entries : List ℕ) (states : ℕ → Bool) (shown : List Bool) (given : ℕ) : Type 0 where
  pub calendar : out.entries.items ≡ entries
  pub low : 1 ≤ length entries
  pub high : length entries ≤ 1024
  pub small : (i : ℕ) → slice_index_or entries i 0 < 65536
  pub wide : length out.on.items ≡ 65536
  pub own : (channel : ℕ) → channel < 65536 → slice_index_or out.on.items channel false ≡ states channel
  pub place : out.given ≡ given
  pub within : given < frame_length (length entries)
  pub frame : 0 < given → out.frame.items ≡ frame_bits shown
  pub sized : 0 < given → length shown ≡ length entries

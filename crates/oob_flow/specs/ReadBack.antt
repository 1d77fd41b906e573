-- Reading what was written.
use Rattle.std.specs.Prelude.{◌≡◌, ℕ, ◌+◌, ◌*◌, ◌<◌, ◌≤◌, min, List, length, Contains}
use Rattle.stream_model.specs.Calendar.{is_on, is_locally_on}
use Rattle.stream_model.specs.declared.rows.LocalRow.{LocalRow}
use Rattle.oob_flow.specs.Written.{AreWritten, frame_begin}
use Rattle.oob_flow.specs.Reading.{rows_of_samples}

-- a slot at or after the last sample of frame k, and before the first row of the next frame, if there is a next
pub record IsAfterFrame (entries : List ℕ) (last k slot : ℕ) : Type 0 where
  pub after : frame_begin entries (k + 1) ≤ slot + 1
  pub before_next : k < last → slot + 1 < frame_begin entries (k + 1) + 2 * (min 64 (length entries) + 4)

-- Let what was written be read. After the rows of a frame each channel that has a calendar entry is on exactly where it
-- was on in that frame.
abbrev pub ShowsFrame : (entries : List ℕ) (local : List LocalRow) (samples : List ℕ) → AreWritten entries local samples → ℕ → Type 0
ShowsFrame entries local samples written k =
    (channel slot : ℕ) → Contains entries channel → IsAfterFrame entries written.last k slot
    → is_on entries (rows_of_samples (length entries) samples) channel slot ≡ is_locally_on local channel (frame_begin entries k)

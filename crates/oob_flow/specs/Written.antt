-- The samples that a writer makes of a calendar and the sender's own states.
use Rattle.std.specs.Prelude.{◌≡◌, ℕ, ◌+◌, ◌*◌, ◌≤◌, Bool, List, length, map, All}
use Rattle.std.specs.List.{flat_map, range_with_len}
use Rattle.lk_base.specs.Least.{IsLeast}
use Rattle.stream_model.specs.Calendar.{is_locally_on}
use Rattle.stream_model.specs.declared.rows.LocalRow.{LocalRow}
use Rattle.oob_flow.specs.Frames.{frame_length, frame_samples}

-- Frames follow one another. This is the number of the first sample of frame k.
abbrev pub frame_begin : List ℕ → ℕ → ℕ
frame_begin entries k = frame_length (length entries) * k

-- the states of the entries by the rows whose slot is at most this
abbrev pub states_at : List ℕ → List LocalRow → ℕ → List Bool
states_at entries local slot = map (λ channel. is_locally_on local channel slot) entries

-- the samples of frame k: its entries show the states by the rows whose slot is at most the number of its first sample
unfoldable pub written_frame : List ℕ → List LocalRow → ℕ → List ℕ
written_frame entries local k = frame_samples (states_at entries local (frame_begin entries k))

-- frame k begins at or after the slot of each row
abbrev pub BeginsAfterRows : List ℕ → List LocalRow → ℕ → Type 0
BeginsAfterRows entries local k = All (λ (row : LocalRow). row.slot ≤ frame_begin entries k) local

-- the samples that are written: the last frame is the first that begins at or after the greatest slot of a row, which is
-- the one at 0 where there is no row
pub record AreWritten (entries : List ℕ) (local : List LocalRow) (samples : List ℕ) : Type 0 where
  pub last : ℕ
  pub is_last : IsLeast (BeginsAfterRows entries local) last
  pub frames : samples ≡ flat_map (written_frame entries local) (range_with_len 0 (last + 1))

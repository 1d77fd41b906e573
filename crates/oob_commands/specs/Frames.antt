-- The samples of frames, one after another.
use Rattle.std.specs.Prelude.{ℕ, List}
use Rattle.std.specs.List.{flat_map, range_with_len}
use Rattle.stream_model.specs.declared.rows.LocalRow.{LocalRow}
use Rattle.oob_flow.specs.Written.{written_frame}

-- the samples of the frames before frame k
unfoldable pub frames_before : List ℕ → List LocalRow → ℕ → List ℕ
frames_before entries local k = flat_map (written_frame entries local) (range_with_len 0 k)

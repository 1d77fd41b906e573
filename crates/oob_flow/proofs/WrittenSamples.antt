-- What is written has no byte that is no sample.
use Rattle.std.proofs.Common.{◌≡◌, ℕ, ◌+◌, List, [], ◌∷◌, All, None, sym, ap, ◌∙◌}
use Rattle.std.specs.List.{flat_map, range_with_len}
use Rattle.std.proofs.lemmas.List.Elements.{All-nil, All-append}
use Rattle.stream_model.specs.declared.rows.LocalRow.{LocalRow}
use Rattle.oob_flow.specs.Samples.{first_bad}
use Rattle.oob_flow.specs.Written.{AreWritten, frame_begin, states_at, written_frame}
use Rattle.oob_flow.proofs.Samples.{IsSample, frame_is}
use Rattle.oob_flow.proofs.Checked.{no_place}

frames_are : (entries : List ℕ) (local : List LocalRow) (numbers : List ℕ) → All IsSample (flat_map (written_frame entries local) numbers)
unfolding written_frame
frames_are entries local [] = All-nil IsSample
frames_are entries local (k ∷ numbers) =
    All-append IsSample (written_frame entries local k) (flat_map (written_frame entries local) numbers) (frame_is (states_at entries local (frame_begin entries k))) (frames_are entries local numbers)

pub none_bad_written : (entries : List ℕ) (local : List LocalRow) (samples : List ℕ) → AreWritten entries local samples → first_bad samples ≡ None
none_bad_written entries local samples w =
    let frames : List ℕ = flat_map (written_frame entries local) (range_with_len 0 (w.last + 1)) in
    ap first_bad w.frames ∙ sym (no_place frames (frames_are entries local (range_with_len 0 (w.last + 1))))

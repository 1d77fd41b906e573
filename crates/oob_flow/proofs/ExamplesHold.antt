-- The examples compute.
use Rattle.std.proofs.Common.{◌<◌, ◌≤◌, ℕ, zero, suc, [], ◌∷◌, refl, arith}
use Rattle.std.proofs.lemmas.List.Elements.{All-nil, All-cons}
use Rattle.lk_base.specs.Checksum.{bits_of, register_after}
use Rattle.stream_model.specs.declared.rows.LocalRow.{LocalRow}
use Rattle.oob_flow.specs.Frames.{block_sizes, block_checksum, block_bits, frame_bits, frame_samples, frame_length}
use Rattle.oob_flow.specs.Written.{BeginsAfterRows, written_frame}
use Rattle.oob_flow.specs.Words.{spelled, flow_bits, idle_word, block_words}
use Rattle.oob_flow.specs.Reading.{rows_of_frame, rows_of_bits, rows_of_samples}
use Rattle.oob_flow.specs.Examples.{FrameExamples, WrittenExamples, ReadExamples, turned_off}

pub frames_hold : FrameExamples
unfolding bits_of register_after block_sizes block_checksum block_bits frame_bits frame_length
frames_hold = record {
  one_entry = refl;
  a_whole_block = refl;
  one_more = refl;
  two_blocks = refl;
  most_entries = refl;
  of_no_bits = refl;
  of_on = refl;
  of_off = refl;
  of_on_and_off = refl;
  of_five = refl;
  of_64_on = refl;
  of_64_off = refl;
  bits = refl;
  short = refl;
  longer = refl;
  longest = refl;
}

-- the first frame begins at sample 0
before : (m : ℕ) → m < 1 → BeginsAfterRows (1 ∷ []) (turned_off 5 1 ∷ []) m → ⊥
unfolding frame_length block_sizes
before zero h a = let late : 5 ≤ 0 = a 0 (turned_off 0 0) (omega arith) in omega arith
before (suc m) h a = omega arith

pub written_hold : WrittenExamples
unfolding bits_of register_after block_sizes block_checksum block_bits frame_bits frame_samples frame_length written_frame
written_hold = record {
  at_once = record { last = 0; is_last = (All-cons (λ (row : LocalRow). row.slot ≤ 0) (turned_off 0 2) [] (omega arith) (All-nil (λ (row : LocalRow). row.slot ≤ 0)), λ m h a. absurd (omega arith)); frames = refl };
  later = record { last = 1; is_last = (All-cons (λ (row : LocalRow). row.slot ≤ 10) (turned_off 5 1) [] (omega arith) (All-nil (λ (row : LocalRow). row.slot ≤ 10)), before); frames = refl };
  without_rows = record { last = 0; is_last = (All-nil (λ (row : LocalRow). row.slot ≤ 0), λ m h a. absurd (omega arith)); frames = refl };
}

pub read_hold : ReadExamples
unfolding bits_of register_after block_sizes block_checksum block_bits frame_bits frame_samples spelled flow_bits idle_word block_words rows_of_frame rows_of_bits rows_of_samples
read_hold = record {
  second_off = refl;
  wrong = refl;
  two_frames = refl;
  from_within = refl;
  nothing = refl;
  two_blocks = refl;
  seventeen = refl;
  first_block_wrong = refl;
  sync_within = refl;
  clock = refl;
}

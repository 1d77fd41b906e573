-- The worked run of two ends is a run of them, and the only one.
use Rattle.std.proofs.Common.{◌≡◌, ℕ, ◌+◌, ◌-◌, ◌≤◌, List, [], ◌∷◌, length, drop, refl, sym, ap, ◌∙◌, arith, length-drop, lit≤}
use Rattle.std.proofs.lemmas.List.{take_all}
use Rattle.lk_base.specs.Checksum.{bits_of, register_after}
use Rattle.lk_base.specs.declared.word.Word.{Word}
use Rattle.lk_base.specs.declared.word.Word.TheVariants.{Data, Control}
use Rattle.receive_model.specs.Stretches.{fault_from}
use Rattle.receive_model.specs.Pieces.{bytes_of}
use Rattle.stream_model.specs.Calendar.{word_number}
use Rattle.stream_model.specs.BurstStream.{Source, IsBurstStream, data_after, data_since, data_words, last_burst}
use Rattle.stream_model.proofs.Checker.{IsChecked, checked}
use Rattle.stream_model.proofs.OneStream.{first_data, first-data, first-control}
use Rattle.duplex_model.specs.DuplexRun.{AreSettings, IsDuplexRun, last_control, local_rows, peak, queue_before, rows_from, source_of}
use Rattle.duplex_model.specs.OpenStream.{IsOpenStream}
use Rattle.duplex_model.proofs.OneRun.{one_run}
use Rattle.duplex.specs.TwoEnds.{TwoEndsRun, five_slots, two_ends, words_of_a, words_of_b}

-- ---- a whole stream is an open one

first_short : (w : List Word) → length (first_data w) ≤ length w
first_short [] = omega arith
first_short (Data d ∷ w) = let e = ap (λ (ds : List ℕ). length ds) (first-data d w) in let h = first_short w in omega (arith, e, h)
first_short (Control x ∷ w) = let e = ap (λ (ds : List ℕ). length ds) (first-control x w) in omega (arith, e)

after_short : (w : List Word) (s : ℕ) → length (data_after w s) ≤ length w - (s + 1)
unfolding data_after
after_short w s = let h = first_short (drop (s + 1) w) in let e = length-drop (s + 1) w in omega (arith, h, e)

open_of_whole : (source : Source) (w : List Word) → IsBurstStream source w → IsOpenStream source w
open_of_whole source w stream = record {
  sized = stream.sized;
  data_in_bursts = stream.data_in_bursts;
  warmup = λ t h early. stream.warmup t early;
  chunks = λ s x at burst.
      let carried = stream.chunks s x at burst in
      let few = after_short w s in
      let many : length (data_after w s) ≡ length (data_words carried.0.bytes) = ap (λ (ds : List ℕ). length ds) carried.2 in
      (carried.0, carried.1, carried.2 ∙ sym (take_all (length w - (s + 1)) (data_words carried.0.bytes) (omega (arith, few, many))));
  controls = stream.controls;
}

-- ---- the run

abbrev source_a : Source
source_a = source_of five_slots two_ends two_ends.packets_of_a words_of_b 5

abbrev source_b : Source
source_b = source_of five_slots two_ends two_ends.packets_of_b words_of_a 5

a_checked : IsChecked source_a words_of_a 3
unfolding bits_of register_after data_since word_number last_burst rows_from last_control local_rows queue_before
a_checked = checked source_a words_of_a 3 refl

b_checked : IsChecked source_b words_of_b 3
unfolding bits_of register_after data_since word_number last_burst rows_from last_control local_rows queue_before
b_checked = checked source_b words_of_b 3 refl

keeps : AreSettings five_slots
keeps = record { delay_low = lit≤ tt; mark_low = lit≤ tt; drain_low = lit≤ tt }

runs : IsDuplexRun five_slots two_ends words_of_a words_of_b
runs = record {
  slots_of_a = refl;
  slots_of_b = refl;
  stream_of_a = open_of_whole source_a words_of_a a_checked.has_words;
  stream_of_b = open_of_whole source_b words_of_b b_checked.has_words;
}

pub two_ends_run : TwoEndsRun
unfolding bits_of register_after fault_from bytes_of peak queue_before last_control
two_ends_run = record {
  run = runs;
  only = λ a b is. one_run five_slots two_ends 5 a b words_of_a words_of_b keeps is runs;
  came_at_a = refl;
  came_at_b = refl;
  a_slot_before = refl;
  most_at_a = refl;
  most_at_b = refl;
  left_at_b = refl;
}

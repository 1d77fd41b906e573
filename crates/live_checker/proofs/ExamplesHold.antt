-- The worked examples hold: each computes.
use Rattle.std.proofs.Common.{refl}
use Rattle.lk_base.specs.Checksum.{bits_of, register_after}
use Rattle.stream_model.specs.Calendar.{word_number}
use Rattle.live_checker.specs.Examples.{LiveExamples}

pub examples_hold : LiveExamples
unfolding bits_of register_after word_number
examples_hold = record {
  late = refl;
  not_yet = refl;
  data_after = refl;
  bad_after = refl;
  last = refl;
  in_order = refl;
  at_the_end = refl;
  off_before = refl;
  off_after = refl;
  off_first = refl;
}

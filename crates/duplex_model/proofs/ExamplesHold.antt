-- The worked examples compute.
use Rattle.std.proofs.Common.{refl}
use Rattle.lk_base.specs.Checksum.{bits_of, register_after}
use Rattle.duplex_model.specs.DuplexRun.{rows_from, last_control, queue_before, peak, local_rows}
use Rattle.duplex_model.specs.Examples.{RunExamples}

pub run_examples : RunExamples
unfolding rows_from last_control queue_before peak local_rows bits_of register_after
run_examples = record {
  queues = refl;
  before_it_is_drained = refl;
  most = refl;
  drained_at_once = refl;
  most_before_it_is_drained = refl;
  of_another_channel = refl;
  a_burst_word_joins_no_queue = refl;
  nothing_behind_the_end = refl;
  told = refl;
  heard = refl;
  heard_in_fewer_slots = refl;
  heard_anew = refl;
}

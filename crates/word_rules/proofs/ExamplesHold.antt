-- The worked examples hold: each computes.
use Rattle.lk_base.specs.Checksum.{bits_of, register_after}
use Rattle.stream_model.specs.Calendar.{word_number}
use Rattle.word_rules.specs.Examples.{Examples}

pub examples_hold : Examples
unfolding bits_of register_after word_number
examples_hold = assumption

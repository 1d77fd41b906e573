-- The definitions give the worked events: they compute.
use Rattle.std.proofs.Common.{refl}
use Rattle.std.specs.Int.Count.{ones_in}
use Rattle.lk_base.specs.Checksum.{bits_of}
use Rattle.lane_model.specs.Bits.{low_bits, low_number}
use Rattle.lane_model.specs.Framing.{role_of}
use Rattle.lane_model.specs.Key.{key_until, state_before, key_word, key_place}
use Rattle.lane_model.specs.Coding.{code_of, disparity, word_of_code}
use Rattle.lane_model.specs.LaneBits.{bits_of_codes}
use Rattle.lock_model.specs.Locks.{code_at}
use Rattle.lane_events.specs.Events.{is_unbalanced, word_events}
use Rattle.lane_events.specs.Examples.{WorkedEvents}

pub worked : WorkedEvents
unfolding ones_in bits_of low_bits low_number role_of key_until state_before key_word key_place code_of disparity word_of_code bits_of_codes code_at is_unbalanced word_events
worked = record {
  declares = refl;
  first_state = refl;
  skip = refl;
  right_sync = refl;
  wrong_sync = refl;
  bad_sync = refl;
  wrong_state = refl;
  bad_skip = refl;
  lost_state = refl;
  unframed = refl;
}

-- The stream of two packets after four groups of idles.
use Rattle.std.proofs.Common.{refl}
use Rattle.lk_base.specs.Checksum.{bits_of, register_after}
use Rattle.stream_model.specs.BurstStream.{IsBurstStream, data_since}
use Rattle.stream_model.proofs.Checker.{IsChecked, checked}
use Rattle.link_commands.specs.TwoPacketsMet.{two_packets, two_words}

two_checked : IsChecked two_packets two_words 231
unfolding bits_of register_after data_since
two_checked = checked two_packets two_words 231 refl

pub two_stream : IsBurstStream two_packets two_words
two_stream = two_checked.has_words

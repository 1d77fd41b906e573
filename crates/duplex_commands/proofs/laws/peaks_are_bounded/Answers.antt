use Rattle.duplex_commands.proofs.PeaksWithin.{peaks_are_bounded}
use Rattle.duplex_commands.proofs.laws.peaks_are_bounded.Goals as goal

pub returns : goal.returns
returns c = peaks_are_bounded

-- Each word comes back at its number.
use Rattle.lane_striper.proofs.Back.{gathered_is_striped}
use Rattle.lane_striper.proofs.laws.gathered_is_striped.Goals as goal

pub returns : goal.returns
returns c = gathered_is_striped

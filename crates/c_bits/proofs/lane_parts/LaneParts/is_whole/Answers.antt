-- Whether a part has no bit.
use Rattle.c_bits.proofs.PartsHold.{whole_is}
use Rattle.c_bits.proofs.lane_parts.LaneParts.is_whole.Goals as goal

pub returns : goal.returns
returns c = whole_is c.of-part.result _ c.of-part.ensures

use Rattle.oob_commands.proofs.HandedOver.{met}
use Rattle.oob_commands.proofs.laws.handing_over_is_met.Goals as goal

pub returns : goal.returns
returns c = met

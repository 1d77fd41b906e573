use Rattle.lane_commands.proofs.StripeLaws as laws
use Rattle.lane_commands.proofs.laws.stripe_sends_burst.Goals as goal

pub returns : goal.returns
returns c = laws.stripe_sends_burst

use Rattle.duplex_commands.proofs.CapturesSent.{captures_are_sent}
use Rattle.duplex_commands.proofs.laws.captures_are_sent.Goals as goal

pub returns : goal.returns
returns c = captures_are_sent

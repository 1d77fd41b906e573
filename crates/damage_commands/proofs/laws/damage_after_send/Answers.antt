use Rattle.damage_commands.proofs.Sending as sending
use Rattle.damage_commands.proofs.laws.damage_after_send.Goals as goal

pub returns : goal.returns
returns c = sending.damage_after_send

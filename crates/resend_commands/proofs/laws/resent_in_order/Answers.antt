use Rattle.resend_commands.proofs.InOrder.{resent_in_order}
use Rattle.resend_commands.proofs.laws.resent_in_order.Goals as goal

pub returns : goal.returns
returns c = resent_in_order

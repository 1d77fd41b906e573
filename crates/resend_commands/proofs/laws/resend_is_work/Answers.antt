use Rattle.resend_commands.proofs.Work.{resend_is_work}
use Rattle.resend_commands.proofs.laws.resend_is_work.Goals as goal

pub returns : goal.returns
returns c = resend_is_work

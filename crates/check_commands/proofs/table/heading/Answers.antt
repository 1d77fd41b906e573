use Rattle.check_commands.proofs.Tables.{heading_text}
use Rattle.check_commands.proofs.table.heading.Goals as goal

pub returns : goal.returns
returns c = heading_text

use Rattle.gather_commands.proofs.Tables.{heading_text}
use Rattle.gather_commands.proofs.table.heading.Goals as goal

pub returns : goal.returns
returns c = heading_text

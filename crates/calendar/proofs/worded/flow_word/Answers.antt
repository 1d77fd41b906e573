use Rattle.std.proofs.Common.{rules}
use Rattle.calendar.proofs.worded.flow_word.Goals as goal

pub returns : goal.returns
returns c = search rules

use Rattle.gathered_laws.proofs.JoinWhole.{join_receives_whole}
use Rattle.gathered_laws.proofs.outcomes.join_receives_whole.Goals as goal

pub returns : goal.returns
returns c = join_receives_whole c.whole_law.ensures.spans c.packets_law.ensures.delivered c.packets_law.ensures.drops c.worked_examples.ensures.tables

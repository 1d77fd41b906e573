use Rattle.std.proofs.Common.{◌∙◌, ap, length}
use Rattle.burst_scheduler.proofs.DataRuns.{last_part, many_last}
use Rattle.burst_scheduler.proofs.scheduler.Scheduler.last_data.Goals as goal

pub returns-clause-numbers : goal.returns-clause-numbers
returns-clause-numbers c = last_part c.args.self.now c.deref.result.now c.args.count c.deref.ensures.value c.requires.0

pub returns-clause-count : goal.returns-clause-count
returns-clause-count c = ap length (last_part c.args.self.now c.deref.result.now c.args.count c.deref.ensures.value c.requires.0) ∙ many_last c.args.self.now c.args.count c.requires

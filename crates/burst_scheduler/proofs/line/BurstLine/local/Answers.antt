use Rattle.burst_scheduler.proofs.LineWords.{other_range}
use Rattle.burst_scheduler.proofs.line.BurstLine.local.Goals as goal

pub returns-clause-line : goal.returns-clause-line
returns-clause-line c = other_range c.args.self.now _ _

pub returns-clause-stands : goal.returns-clause-stands
returns-clause-stands c entries rows j slot h = c.set.ensures entries rows j slot h

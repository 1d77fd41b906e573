use Rattle.std.proofs.Common.{◌∙◌}
use Rattle.crc32_runs.proofs.Waiting.{none_waits}
use Rattle.crc32_runs.proofs.long.LongCrc32.register.Goals as goal

pub returns-clause-unchanged : goal.returns-clause-unchanged
returns-clause-unchanged c = none_waits c.settle-self-inside.result c.settle-self-inside.new.words ∙ c.settle-self-inside.ensures ∙ c.self.view_is
